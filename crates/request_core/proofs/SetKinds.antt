-- What was made of a row that is there is what the request sets, for each kind.
use Rattle.std.proofs.Common.{◌≡◌, ◌∙◌, List, Option, Some, None, ap, refl}
use Rattle.std.specs.Prelude.{option_map, unwrap_or}
use Rattle.std.specs.Option.{option_map_or}
use Rattle.meta_types.specs.Text.{Text}
use Rattle.meta_types.specs.Labels.{LabelList}
use Rattle.meta_types.specs.Keys.{Key, row_at, change_row}
use Rattle.meta_types.specs.Updates.{updated}
use Rattle.meta_types.specs.Rows.{LeaseRow, image_key, container_key, content_key, snap_key, lease_key}
use Rattle.meta_types.specs.Ops.Images.{set_image}
use Rattle.meta_types.specs.Ops.Containers.{snapshot_named, set_container}
use Rattle.meta_types.specs.Ops.Content.{set_content}
use Rattle.meta_types.specs.Ops.Snapshots.{set_snapshot}
use Rattle.meta_types.specs.Ops.Leases.{set_lease}
use Rattle.meta_types.specs.declared.rows.ImageRow.{ImageRow}
use Rattle.meta_types.specs.declared.rows.ContainerRow.{ContainerRow}
use Rattle.meta_types.specs.declared.rows.ContentRow.{ContentRow}
use Rattle.meta_types.specs.declared.rows.SnapRow.{SnapRow}
use Rattle.meta_types.specs.declared.request.RowUpdate.{RowUpdate}
use Rattle.meta_types.specs.declared.request.ImageSet.{ImageSet}
use Rattle.meta_types.specs.declared.request.ContainerSet.{ContainerSet}
use Rattle.object_tables.specs.Edits.{image_with, container_with, content_with, snap_with}
use Rattle.lease_book.specs.Edits.{lease_with}
use Rattle.request_core.specs.Made.{parts_after}
use Rattle.request_core.proofs.SetRows.{set_is}

module _ {Row : Type 0} (key_of : Row → Key) (labels_in : Row → LabelList) (extra_in : Row → Text)
    (update : RowUpdate) (key : Key) (rows : List Row) (labels : LabelList) (extra : Text)
    (put : LabelList → Text → Row → Row) (set : Row → Row) where
  -- a row whose labels and data were made goes in the place of the one that is there
  pub parts_set : (found : Option Row) → row_at key_of key rows ≡ found
      → option_map (parts_after labels_in extra_in update) found ≡ Some (labels, extra)
      → ((row : Row) → found ≡ Some row
      → put (updated update (labels_in row)) (unwrap_or update.extra (extra_in row)) row ≡ set row)
      → change_row key_of key (put labels extra) rows ≡ change_row key_of key set rows
  parts_set None is made same = absurd cc
  parts_set (Some row) is made same =
      let parts : parts_after labels_in extra_in update row ≡ (labels, extra) = cc in
      let labels_are : updated update (labels_in row) ≡ labels = ap (λ (p : LabelList × Text). p.0)
      parts in
      let extra_is : unwrap_or update.extra (extra_in row)
      ≡ extra = ap (λ (p : LabelList × Text). p.1) parts in
      set_is key_of key (put labels extra) set row rows is
      (rw (← labels_are, ← extra_is) (same row refl))

-- an image, whose target was made too
pub image_is_set : (asked : ImageSet) (key : Key) (rows : List ImageRow) (given : Option Text)
    (target : Text) (labels : LabelList)
    (extra : Text) (found : Option ImageRow) → given ≡ asked.target → row_at image_key key rows
    ≡ found
    → option_map (parts_after (λ row. row.labels) (λ row. row.extra) asked.update) found
    ≡ Some (labels, extra)
    → Some target ≡ option_map (λ row. unwrap_or given row.target) found
    → change_row image_key key (image_with target labels extra) rows
    ≡ change_row image_key key (set_image asked) rows
image_is_set asked key rows given target labels extra found same_given is made made_target =
    parts_set image_key (λ row. row.labels) (λ row. row.extra) asked.update key rows labels extra
    (image_with target) (set_image asked) found is made
    (λ row there. ap (λ (t : Text). image_with t (updated asked.update row.labels)
    (unwrap_or asked.update.extra row.extra) row) (target_is row there))
  where
    target_is : (row : ImageRow) → found ≡ Some row → target ≡ unwrap_or asked.target row.target
    target_is row there =
        let same : Some target ≡ Some (unwrap_or given row.target) = rw there at made_target in
        let made_of : target ≡ unwrap_or given row.target = cc in
        made_of ∙ ap (λ (t : Option Text). unwrap_or t row.target) same_given

-- a container, whose snapshot was made too
pub container_is_set : (asked : ContainerSet) (key : Key) (rows : List ContainerRow)
    (given snapshot : Option (Text × Text)) (labels : LabelList) (extra : Text)
    (found : Option ContainerRow)
    → given ≡ snapshot_named asked.snapshotter asked.key → row_at container_key key rows ≡ found
    → option_map (parts_after (λ row. row.labels) (λ row. row.extra) asked.update) found
    ≡ Some (labels, extra)
    → Some snapshot ≡ option_map (λ row. option_map_or Some given row.snapshot) found
    → change_row container_key key (container_with snapshot labels extra) rows
    ≡ change_row container_key key (set_container asked) rows
container_is_set asked key rows given snapshot labels extra found same_given is made made_snapshot =
    parts_set container_key (λ row. row.labels) (λ row. row.extra) asked.update key rows labels
    extra
    (container_with snapshot) (set_container asked) found is made
    (λ row there. ap (λ (s : Option (Text × Text)). container_with s
    (updated asked.update row.labels)
    (unwrap_or asked.update.extra row.extra) row) (snapshot_is row there))
  where
    snapshot_is : (row : ContainerRow) → found ≡ Some row
        → snapshot ≡ option_map_or Some (snapshot_named asked.snapshotter asked.key) row.snapshot
    snapshot_is row there =
        let same : Some snapshot ≡ Some (option_map_or Some given row.snapshot) = rw there at
        made_snapshot in
        let made_of : snapshot ≡ option_map_or Some given row.snapshot = cc in
        made_of ∙ ap (λ (s : Option (Text × Text)). option_map_or Some s row.snapshot) same_given

pub content_is_set : (update : RowUpdate) (key : Key) (rows : List ContentRow) (labels : LabelList)
    (extra : Text) (found : Option ContentRow) → row_at content_key key rows ≡ found
    → option_map (parts_after (λ row. row.labels) (λ row. row.extra) update) found
    ≡ Some (labels, extra)
    → change_row content_key key (content_with labels extra) rows
    ≡ change_row content_key key (set_content update) rows
content_is_set update key rows labels extra found is made =
    parts_set content_key (λ row. row.labels) (λ row. row.extra) update key rows labels extra
    content_with (set_content update) found is made (λ row there. refl)

pub snap_is_set : (update : RowUpdate) (key : Key) (rows : List SnapRow) (labels : LabelList)
    (extra : Text) (found : Option SnapRow) → row_at snap_key key rows ≡ found
    → option_map (parts_after (λ row. row.labels) (λ row. row.extra) update) found
    ≡ Some (labels, extra)
    → change_row snap_key key (snap_with labels extra) rows
    ≡ change_row snap_key key (set_snapshot update) rows
snap_is_set update key rows labels extra found is made =
    parts_set snap_key (λ row. row.labels) (λ row. row.extra) update key rows labels extra
    snap_with (set_snapshot update) found is made (λ row there. refl)

pub lease_is_set : (update : RowUpdate) (key : Key) (rows : List LeaseRow) (labels : LabelList)
    (extra : Text) (found : Option LeaseRow) → row_at lease_key key rows ≡ found
    → option_map (parts_after (λ row. row.labels) (λ row. row.extra) update) found
    ≡ Some (labels, extra)
    → change_row lease_key key (lease_with labels extra) rows
    ≡ change_row lease_key key (set_lease update) rows
lease_is_set update key rows labels extra found is made =
    parts_set lease_key (λ row. row.labels) (λ row. row.extra) update key rows labels extra
    lease_with (set_lease update) found is made (λ row there. refl)
