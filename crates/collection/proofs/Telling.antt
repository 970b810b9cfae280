-- What can be told without memory: where no device ever fails, all that a plan names went.
use Rattle.std.proofs.Common.{◌≡◌, ◌∙◌, ℕ, ℤ, ◌+◌, Bool, false, List, [], ◌∷◌, length, refl, sym, ap, subst, arith}
use Rattle.std.specs.Prelude.{Option, None, Some}
use Rattle.meta_types.specs.Backends.{BackNames, no_objects, removed_objects}
use Rattle.meta_types.specs.Collected.{collected_records}
use Rattle.meta_types.specs.Reports.{Report}
use Rattle.meta_types.specs.Rows.{Records, BackLists}
use Rattle.table_sweep.specs.declared.planning.Plan.{Plan}
use Rattle.table_sweep.specs.InKeyOrder.{records_in_key_order}
use Rattle.table_sweep.specs.Plans.{IsPlanOfRows}
use Rattle.backend_sweep.specs.ObjectOutcomes.{AllOutcomes, failed_of}
use Rattle.backend_sweep.specs.Swept.{count_names}
use Rattle.collection.specs.Copies.{IsSpare, AreSpare, IsFillable, CanFill}
use Rattle.collection.specs.Rooms.{AreRoomsFor, AllWent, CanTell}
use Rattle.collection.specs.Whole.{SweepsBackends}
use Rattle.collection.specs.declared.reporting.Rooms.{Rooms}
use Rattle.collection.specs.declared.spare.SpareReport.{SpareReport}

none_listed : {X : Type 0} (list : List X) → length list ≡ 0 → list ≡ []
none_listed [] e = refl
none_listed (x ∷ list) e = absurd (omega (arith, e))

-- names whose number is 0 are none
no_names : (names : BackNames) → count_names names ≡ 0 → names ≡ no_objects
no_names names e =
    let sum : length names.blobs + length names.ingests + length names.snapshots ≡ 0 = e in
    let blobs = none_listed names.blobs (omega (arith, sum)) in
    let ingests = none_listed names.ingests (omega (arith, sum)) in
    let snapshots = none_listed names.snapshots (omega (arith, sum)) in
    λ i. record { blobs = blobs i; ingests = ingests i; snapshots = snapshots i }

pub none_failed : (snapshots blobs ingests : ℕ) → snapshots ≡ 0 → blobs ≡ 0 → ingests ≡ 0
    → snapshots + blobs + ingests ≡ 0
none_failed snapshots blobs ingests s b i = omega (arith, s, b, i)

none_more : (new old more : ℕ) → new ≡ old + more → new ≡ 0 → more ≡ 0
none_more new old more count none = omega (arith, count, none)

-- where no device ever fails, a sweep removes all that the plan names: what was counted tells it
pub all_went : (arrived : Records) (n : ℕ) (backends : BackLists) (at : ℤ) (plan : Plan)
    (outcomes : AllOutcomes) (back : BackLists) (new old : ℕ)
    → IsPlanOfRows arrived n backends at plan → SweepsBackends plan backends outcomes back
    → new ≡ old + count_names (failed_of plan.report.backend outcomes) → new ≡ 0
    → AllWent plan.report.backend outcomes
all_went arrived n backends at plan outcomes back new old p objects count no_new =
    let left = collected_records at p.reached (records_in_key_order arrived) in
    let are = ap (λ (report : Report). report.backend) p.report_is in
    let swept = objects left.tables are in
    let failed = failed_of plan.report.backend outcomes in
    let zero : count_names failed ≡ 0 = none_more new old (count_names failed) count no_new in
    let none = no_names failed zero in
    record {
      all = swept.removed_is
          ∙ ap (λ (names : BackNames). removed_objects left.tables names backends) none ∙ sym are;
      none = none;
    }

pub can_tell : (may_fail : Bool) (names : BackNames) (outcomes : AllOutcomes) (rooms : Option Rooms)
    → AreRoomsFor may_fail names rooms → (may_fail ≡ false → AllWent names outcomes)
    → CanTell names outcomes rooms
can_tell may_fail names outcomes None made went = went made
can_tell may_fail names outcomes (Some rooms) made went = made

fillable : (may_fail : Bool) (planned : Report) (outcomes : AllOutcomes) (spare : SpareReport)
    → IsSpare may_fail planned spare → (may_fail ≡ false → AllWent planned.backend outcomes)
    → IsFillable planned outcomes spare
fillable may_fail planned outcomes spare is went = record {
  report = is.report;
  rooms = subst (λ (report : Report). CanTell report.backend outcomes spare.rooms) (sym is.report)
      (can_tell may_fail planned.backend outcomes spare.rooms is.rooms went);
}

pub can_fill : (kept may_fail : Bool) (planned : Report) (outcomes : AllOutcomes)
    (spares : Option (SpareReport × SpareReport)) → AreSpare kept may_fail planned spares
    → (may_fail ≡ false → AllWent planned.backend outcomes) → CanFill kept planned outcomes spares
can_fill kept may_fail planned outcomes None are went = are
can_fill kept may_fail planned outcomes (Some both) are went = (
  are.0,
  fillable may_fail planned outcomes both.0 are.1 went,
  fillable may_fail planned outcomes both.1 are.2 went,
)
