-- What a sweep of all backends did, and what it left. Ours, unless a source stands beside.
use Rattle.std.specs.Prelude.{◌≡◌, ◌+◌, ℕ, length}
use Rattle.meta_types.specs.Rows.{Tables, BackLists}
use Rattle.meta_types.specs.Backends.{BackNames, IsFailure, no_objects, removed_objects, collected_backends}
use Rattle.backend_sweep.specs.ObjectOutcomes.{AllOutcomes, removed_of, failed_of}

-- what these tables don't own is gone, but for failed removals and what is above those
pub record IsSwept (tables : Tables) (old new : BackLists) (removed failed : BackNames) : Type 0 where
  pub may_fail : IsFailure tables old failed
  pub removed_is : removed ≡ removed_objects tables failed old
  pub left_is : new ≡ collected_backends tables failed old

-- of what these names hold all is swept, for any tables that leave just them without an owner
abbrev pub SweepsNames : BackNames → BackLists → BackLists → AllOutcomes → Type 0
SweepsNames names old new outcomes = (tables : Tables)
    → names ≡ removed_objects tables no_objects old
    → IsSwept tables old new (removed_of names outcomes) (failed_of names outcomes)

-- how many objects are named
abbrev pub count_names : BackNames → ℕ
count_names names = length names.blobs + length names.ingests + length names.snapshots
