-- Which names may be swept. Ours, unless a source stands beside.
use Rattle.std.specs.Prelude.{◌≡◌, ◌<◌, true, Contains, AllPairs, IsTrue}
use Rattle.meta_types.specs.Keys.{are_in_order}
use Rattle.meta_types.specs.Rows.{Tables, BackLists, BackSnap, namespace_key}
use Rattle.meta_types.specs.Changes.{stands_before}
use Rattle.meta_types.specs.Backends.{BackNames, no_objects, removed_objects, owns_snapshot}
use Rattle.backend_sweep.specs.Shards.{IsAbove}

-- These names may be swept: some tables leave just them without an owner, and own the parent of
-- each snapshot that they own. A parent's number is smaller, and all stand in order.
pub record MaySweep (back : BackLists) (names : BackNames) : Type 0 where
  pub tables : Tables
  pub are : names ≡ removed_objects tables no_objects back
  pub closed : (snap above : BackSnap) → Contains back.snapshots snap → Contains back.snapshots above → IsAbove above snap → owns_snapshot tables snap ≡ true → owns_snapshot tables above ≡ true
  pub falls : (snap above : BackSnap) → Contains back.snapshots snap → Contains back.snapshots above → IsAbove above snap → above.number < snap.number
  pub ordered : AllPairs (λ a b. IsTrue (stands_before a b)) back.snapshots
  pub blobs_ordered : IsTrue (are_in_order namespace_key back.blobs)
  pub ingests_ordered : AllPairs (λ a b. a < b) back.ingests
