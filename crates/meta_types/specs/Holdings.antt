-- A lease that is to hold an object that exists: what it then holds, and how long. Ours, unless a
-- source stands beside.
use Rattle.std.specs.Prelude.{◌≡◌, ℤ, Bool, [], ◌∷◌, Option, Some, None, is_some, if◌then◌else◌, IsTrue}
use Rattle.meta_types.specs.Text.{Text}
use Rattle.meta_types.specs.Keys.{row_at, has_row}
use Rattle.meta_types.specs.Rows.{State, LeaseRow, content_key, ingest_key, snap_key, lease_key}
use Rattle.meta_types.specs.Paths.{lease_stays}
use Rattle.meta_types.specs.Backends.{BackNames}
use Rattle.meta_types.specs.Reports.{Report, Collects}
use Rattle.meta_types.specs.Sound.{IsSound}
use Rattle.meta_types.specs.Changes.{lease_holds}
use Rattle.meta_types.specs.Steps.{after}
use Rattle.meta_types.specs.Shown.{ToHold, object_to_hold, request_done, words_fault}
use Rattle.meta_types.specs.declared.request.Request.{Request}
use Rattle.meta_types.specs.declared.resource.Resource.{Resource}
use Rattle.meta_types.specs.declared.resource.Resource.TheVariants.{Content, Snapshot, Ingest}

-- the row of a resource is there
abbrev pub has_resource : State → Text → Resource → Bool
has_resource state ns (Content digest) = has_row content_key (ns ∷ digest ∷ [])
    state.records.tables.content
has_resource state ns (Snapshot snapshotter name) = has_row snap_key (ns ∷ snapshotter ∷ name ∷ [])
    state.records.tables.snapshots
has_resource state ns (Ingest name) = has_row ingest_key (ns ∷ name ∷ [])
    state.records.tables.ingests

-- an object is there, and its lease holds it
pub record IsHeld (state : State) (object : ToHold) : Type 0 where
  pub there : IsTrue (has_resource state object.ns object.resource)
  pub held : IsTrue (lease_holds (object.ns ∷ object.lease ∷ []) object.resource
      state.records.leases)

-- If a line's lease is to hold the object that the line makes, and no fault refuses the line, the
-- object is there afterwards and the lease holds it, whether it was made or was there before.
abbrev pub WhatIsThereIsHeld : Type 0
WhatIsThereIsHeld = (state : State) (request : Request) (object : ToHold)
    (answer there : Option Text)
    → object_to_hold request ≡ Some object → words_fault state request answer there ≡ None
    → IsHeld (after state (request_done state request there)) object

-- in a sound store, each collection at which the lease hasn't expired keeps the object that the
-- lease holds
abbrev pub WhatIsHeldStays : Type 0
WhatIsHeldStays = (state : State) (object : ToHold) (lease : LeaseRow) (at : ℤ) (failed : BackNames)
    (report : Report) (new : State)
    → IsSound state → IsHeld state object
    → row_at lease_key (object.ns ∷ object.lease ∷ []) state.records.leases ≡ Some lease
    → IsTrue (lease_stays at lease)
    → Collects state at failed report new → IsTrue (has_resource new object.ns object.resource)
