-- What may be done to a row in its place.
use Rattle.std.specs.Prelude.{◌≡◌, Option, Result, Ok, Err, OnOk, OnErr}
use Rattle.std.proofs.Common.{ap, ◌∙◌}
use Rattle.meta_types.specs.Text.{Text}
use Rattle.meta_types.specs.Labels.{LabelList, put_label, takes_label}
use Rattle.meta_types.specs.Faults.{Refuses, unless}
use Rattle.meta_types.specs.declared.fault.Fault.{Fault}
use Rattle.meta_types.specs.declared.fault.Fault.TheVariants.{InvalidArgument}
use Rattle.meta_types.specs.declared.instant.Instant.{Instant}
use Rattle.meta_types.specs.declared.rows.ImageRow.{ImageRow}
use Rattle.meta_types.specs.declared.rows.ContainerRow.{ContainerRow}
use Rattle.meta_types.specs.declared.rows.ContentRow.{ContentRow}
use Rattle.meta_types.specs.declared.rows.IngestRow.{IngestRow}
use Rattle.meta_types.specs.declared.rows.SnapRow.{SnapRow}

-- one label is put, or refused (containerd, updates of labels)
pub record Relabels {Row : Type 0} (labels_in : Row → LabelList) (with_labels : LabelList → Row → Row) (key value : Text) (old : Row) (answer : Result (Unit {0}) Fault) (new : Row) : Type 0 where
  pub fault : Refuses answer (unless (takes_label key value (labels_in old)) InvalidArgument)
  pub ok : OnOk answer (new ≡ with_labels (put_label key value (labels_in old)) old)
  pub err : OnErr answer (new ≡ old)

-- what labels are no part of stays
pub relabels_keep : {Row X : Type 0} (labels_in : Row → LabelList) (with_labels : LabelList → Row → Row) (part : Row → X) → ((labels : LabelList) (row : Row) → part (with_labels labels row) ≡ part row)
    → (key value : Text) (old : Row) (answer : Result (Unit {0}) Fault) (new : Row) → Relabels labels_in with_labels key value old answer new → part new ≡ part old
relabels_keep labels_in with_labels part keeps key value old (Ok u) new r = ap part r.ok ∙ keeps (put_label key value (labels_in old)) old
relabels_keep labels_in with_labels part keeps key value old (Err e) new r = ap part r.err

-- an image runs from other content (containerd image store, Update)
abbrev pub with_target : Text → ImageRow → ImageRow
with_target target row = record row { target = target }

-- an image has another target, other labels, other data (containerd image store, Update)
abbrev pub image_with : Text → LabelList → Text → ImageRow → ImageRow
image_with target labels extra row = record row { target = target; labels = labels; extra = extra }

-- a container has another snapshot, other labels, other data (containerd container store, Update)
abbrev pub container_with : Option (Text × Text) → LabelList → Text → ContainerRow → ContainerRow
container_with snapshot labels extra row = record row {
  snapshot = snapshot;
  labels = labels;
  extra = extra;
}

-- content has other labels, other data (containerd content store, Update)
abbrev pub content_with : LabelList → Text → ContentRow → ContentRow
content_with labels extra row = record row { labels = labels; extra = extra }

-- a snapshot has other labels, other data (containerd snapshots service, Update)
abbrev pub snap_with : LabelList → Text → SnapRow → SnapRow
snap_with labels extra row = record row { labels = labels; extra = extra }

-- an ingest holds itself up to another moment
abbrev pub ingest_until : Option Instant → IngestRow → IngestRow
ingest_until expires row = record row { expires = expires }
