-- Room for the names of a report, where a device may fail. Ours, unless a source stands beside.
use Rattle.std.specs.Prelude.{◌≡◌, ◌≤◌, Bool, false, List, [], length, Option, None, Some}
use Rattle.std.specs.Vec.{vec_capacity}
use Rattle.meta_types.specs.Backends.{BackNames, no_objects}
use Rattle.backend_sweep.specs.ObjectOutcomes.{AllOutcomes, removed_of, failed_of}
use Rattle.collection.specs.declared.reporting.Room.{Room}
use Rattle.collection.specs.declared.reporting.Rooms.{Rooms}

-- each list is empty, and has room for these names
pub record IsRoomFor {X : Type 0} (names : List X) (room : Room X) : Type 0 where
  pub removed : (room.removed.items ≡ []) × (length names ≤ vec_capacity room.removed)
  pub failed : (room.failed.items ≡ []) × (length names ≤ vec_capacity room.failed)

-- there is room for all these objects
pub record HasRoomFor (names : BackNames) (rooms : Rooms) : Type 0 where
  pub blobs : IsRoomFor names.blobs rooms.blobs
  pub ingests : IsRoomFor names.ingests rooms.ingests
  pub snapshots : IsRoomFor names.snapshots rooms.snapshots

-- there is room for all these objects where a device may fail, and none where no device ever fails
abbrev pub AreRoomsFor : Bool → BackNames → Option Rooms → Type 0
AreRoomsFor may_fail names None = may_fail ≡ false
AreRoomsFor may_fail names (Some rooms) = HasRoomFor names rooms

-- all these objects went, and none failed
pub record AllWent (names : BackNames) (outcomes : AllOutcomes) : Type 0 where
  pub all : removed_of names outcomes ≡ names
  pub none : failed_of names outcomes ≡ no_objects

-- these outcomes can be told without memory: there is room for all objects, or all went
abbrev pub CanTell : BackNames → AllOutcomes → Option Rooms → Type 0
CanTell names outcomes None = AllWent names outcomes
CanTell names outcomes (Some rooms) = HasRoomFor names rooms
