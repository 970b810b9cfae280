-- Changes of one lease in its place: a label, or a resource more or less; its labels and its data.
-- Ours, unless a source stands beside.
use Rattle.std.specs.Prelude.{◌≡◌, Bool, Option, Result, Ok, Err, OnOk, OnErr}
use Rattle.std.proofs.Common.{ap, ◌∙◌}
use Rattle.meta_types.specs.Text.{Text}
use Rattle.meta_types.specs.Keys.{has_row, remove_row}
use Rattle.meta_types.specs.Labels.{LabelList, put_label, takes_label}
use Rattle.meta_types.specs.Resources.{resource_key, held}
use Rattle.meta_types.specs.Rows.{LeaseRow}
use Rattle.meta_types.specs.Faults.{Refuses, unless}
use Rattle.meta_types.specs.declared.fault.Fault.{Fault}
use Rattle.meta_types.specs.declared.fault.Fault.TheVariants.{InvalidArgument}
use Rattle.meta_types.specs.declared.resource.Resource.{Resource}

-- the lease has one label more, or another value of one, or one less (containerd leases service)
abbrev pub with_label : Text → Text → LeaseRow → LeaseRow
with_label key value row = record row { labels = put_label key value row.labels }

-- a label that a lease doesn't take
abbrev pub refuses_label : Text → Text → LeaseRow → Option Fault
refuses_label key value row = unless (takes_label key value row.labels) InvalidArgument

-- the lease has other labels and other data
abbrev pub lease_with : LabelList → Text → LeaseRow → LeaseRow
lease_with labels extra row = record row { labels = labels; extra = extra }

-- the lease holds one resource more (containerd leases service, AddResource)
abbrev pub with_resource : Resource → LeaseRow → LeaseRow
with_resource resource row = record row { resources = held resource row.resources }

-- the lease releases a resource (containerd leases service, DeleteResource)
abbrev pub without_resource : Resource → LeaseRow → LeaseRow
without_resource resource row = record row { resources = remove_row resource_key (resource_key resource) row.resources }

-- the lease becomes another, or is refused and stays as it was
pub record Edits (refusal : LeaseRow → Option Fault) (after : LeaseRow → LeaseRow) (old : LeaseRow) (answer : Result (Unit {0}) Fault) (new : LeaseRow) : Type 0 where
  pub fault : Refuses answer (refusal old)
  pub ok : OnOk answer (new ≡ after old)
  pub err : OnErr answer (new ≡ old)

-- what the change leaves stays
pub edits_keep : {X : Type 0} (refusal : LeaseRow → Option Fault) (after : LeaseRow → LeaseRow) (part : LeaseRow → X) → ((row : LeaseRow) → part (after row) ≡ part row)
    → (old : LeaseRow) (answer : Result (Unit {0}) Fault) (new : LeaseRow) → Edits refusal after old answer new → part new ≡ part old
edits_keep refusal after part keeps old (Ok u) new e = ap part e.ok ∙ keeps old
edits_keep refusal after part keeps old (Err f) new e = ap part e.err

-- the lease releases a resource, and answers whether it held it (containerd leases service,
-- DeleteResource)
pub record Releases (resource : Resource) (old : LeaseRow) (told : Bool) (new : LeaseRow) : Type 0 where
  pub found : told ≡ has_row resource_key (resource_key resource) old.resources
  pub left : new ≡ without_resource resource old
