-- Copies of a report, where a history is kept. Ours, unless a source stands beside.
use Rattle.std.specs.Prelude.{◌≡◌, Bool, true, false, Option, Some, None}
use Rattle.meta_types.specs.Reports.{Report}
use Rattle.backend_sweep.specs.ObjectOutcomes.{AllOutcomes}
use Rattle.collection.specs.Rooms.{AreRoomsFor, CanTell}
use Rattle.collection.specs.declared.reports.Copies.{Copies}
use Rattle.collection.specs.declared.spare.SpareReport.{SpareReport}

-- there are copies where a history is kept, and only there; they are the report
abbrev pub AreCopies : Bool → Report → Option Copies → Type 0
AreCopies kept report None = kept ≡ false
AreCopies kept report (Some copies) =
    (kept ≡ true) × (copies.log ≡ report) × (copies.list ≡ report)

-- it is the report of a plan, with room for the objects that this names where a device may fail
pub record IsSpare (may_fail : Bool) (planned : Report) (spare : SpareReport) : Type 0 where
  pub report : spare.report ≡ planned
  pub rooms : AreRoomsFor may_fail planned.backend spare.rooms

-- two of them, where a history is kept, and only there
abbrev pub AreSpare : Bool → Bool → Report → Option (SpareReport × SpareReport) → Type 0
AreSpare kept may_fail planned None = kept ≡ false
AreSpare kept may_fail planned (Some both) =
    (kept ≡ true) × IsSpare may_fail planned both.0 × IsSpare may_fail planned both.1

-- it is the report of a plan, and can tell these outcomes without memory
pub record IsFillable (planned : Report) (outcomes : AllOutcomes)
    (spare : SpareReport) : Type 0 where
  pub report : spare.report ≡ planned
  pub rooms : CanTell spare.report.backend outcomes spare.rooms

-- two of them, where a history is kept, and only there
abbrev pub CanFill : Bool → Report → AllOutcomes → Option (SpareReport × SpareReport) → Type 0
CanFill kept planned outcomes None = kept ≡ false
CanFill kept planned outcomes (Some both) =
    (kept ≡ true) × IsFillable planned outcomes both.0 × IsFillable planned outcomes both.1
