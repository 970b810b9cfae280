-- What refuses a removal with a collection, and what it begins with.
use Rattle.std.proofs.Common.{◌≡◌, inl, inr, Bool, true, false, not, refl, sym, ap, ◌∙◌, subst, ℕ}
use Rattle.std.specs.Prelude.{Option, Some, None, Result, Ok, Err, ◌||◌}
use Rattle.std.specs.Result.{IsErrAnd}
use Rattle.meta_types.specs.Reports.{Report}
use Rattle.meta_types.specs.declared.fault.Fault.{Fault}
use Rattle.meta_types.specs.declared.fault.Fault.TheVariants.{InvalidArgument, NotFound, FailedPrecondition}
use Rattle.steal_mark.specs.Refusing.{RefusesThreads}
use Rattle.collection.specs.Refused.{CollectFails, RefusesCollect}
use Rattle.meta_types.specs.Faults.{least_of}
use Rattle.meta_types.specs.Limits.{is_worker_count, is_too_large}
use Rattle.meta_types.specs.Rows.{Records, BackLists, State}
use Rattle.meta_types.specs.Requests.{removal_outcome}
use Rattle.meta_types.specs.Steps.{remove_collect_fault}
use Rattle.meta_types.specs.declared.request.Removal.{Removal}
use Rattle.meta_types.specs.declared.request.Removal.TheVariants as R
use Rattle.collection.specs.Removing.{is_readable, named_in, is_missing, without}
use Rattle.collection.specs.declared.removal.RemovedRow.{RemovedRow}

-- with texts that are allowed, the tests are those of the code
pub fault_is : (state : State) (removal : Removal) (workers : ℕ) → is_readable removal ≡ true
    → least_of (not (is_worker_count workers)) (is_missing state.records (named_in removal)) false (is_too_large state.records)
    ≡ remove_collect_fault state removal workers
fault_is state (R.Image image) workers read =
    ap (λ (b : Bool). least_of (not b || not (is_worker_count workers)) (is_missing state.records (named_in (R.Image image))) false (is_too_large state.records)) (sym read)
fault_is state (R.Lease lease) workers read =
    ap (λ (b : Bool). least_of (not b || not (is_worker_count workers)) (is_missing state.records (named_in (R.Lease lease))) false (is_too_large state.records)) (sym read)

-- texts that aren't allowed are refused so
pub unreadable : (state : State) (removal : Removal) (workers : ℕ) → is_readable removal ≡ false
    → remove_collect_fault state removal workers ≡ Some InvalidArgument
unreadable state (R.Image image) workers read =
    ap (λ (b : Bool). least_of (not b || not (is_worker_count workers)) (is_missing state.records (named_in (R.Image image))) false (is_too_large state.records)) read
unreadable state (R.Lease lease) workers read =
    ap (λ (b : Bool). least_of (not b || not (is_worker_count workers)) (is_missing state.records (named_in (R.Lease lease))) false (is_too_large state.records)) read

-- the store without the row is the one that the removal leaves
pub after_is : (records : Records) (backends : BackLists) (removal : Removal)
    → record { records = without records (named_in removal); backends = backends } ≡ (removal_outcome (record { records = records; backends = backends }) removal).after
after_is records backends (R.Image image) = refl
after_is records backends (R.Lease lease) = refl

-- ---- refusals

of_least : (a b d : Bool) (fault : Fault) → least_of a b false d ≡ Some fault
    → CollectFails fault (least_of a b false d)
of_least true b d fault e = let p : InvalidArgument ≡ fault = cc in subst (λ (f : Fault). CollectFails f (Some InvalidArgument)) p refl
of_least false true d fault e = let p : NotFound ≡ fault = cc in subst (λ (f : Fault). CollectFails f (Some NotFound)) p refl
of_least false false true fault e = let p : FailedPrecondition ≡ fault = cc in subst (λ (f : Fault). CollectFails f (Some FailedPrecondition)) p refl
of_least false false false fault e = absurd cc

passed_on : (result : Result Report Fault) (fault : Fault) (least : Option Fault)
    → IsErrAnd result (λ other. other ≡ fault) → CollectFails fault least
    → RefusesCollect result least
passed_on (Ok report) fault least same h = absurd same
passed_on (Err other) fault least same h = subst (λ (f : Fault). CollectFails f least) (sym same) h

none_of : (a b d : Bool) → least_of a b false d ≡ None → (a ≡ false) × (b ≡ false) × (d ≡ false)
none_of true b d e = absurd cc
none_of false true d e = absurd cc
none_of false false true e = absurd cc
none_of false false false e = (refl, refl, refl)

from_threads : (fault : Fault) → RefusesThreads {X = Report} (Err fault) None → CollectFails fault
    None
from_threads fault (inl h) = subst (λ (f : Fault). CollectFails f None) (sym h) tt
from_threads fault (inr h) = subst (λ (f : Fault). CollectFails f None) (sym h) refl

not_false : (b : Bool) → not b ≡ false → b ≡ true
not_false true h = refl
not_false false h = absurd cc

module _ (state : State) (removal : Removal) (workers : ℕ) (named : RemovedRow) (read :
    (is_readable removal ≡ true) × (named ≡ named_in removal)) where
  abbrev tested : Option Fault
  tested = least_of (not (is_worker_count workers)) (is_missing state.records named) false (is_too_large state.records)

  tested_is : tested ≡ remove_collect_fault state removal workers
  tested_is =
      ap (λ (n : RemovedRow). least_of (not (is_worker_count workers))
      (is_missing state.records n) false (is_too_large state.records)) read.1
      ∙ fault_is state removal workers read.0

  -- what the check refuses is refused so
  pub checked : (result : Result Report Fault) (fault : Fault)
      → IsErrAnd result (λ other. other ≡ fault) → tested ≡ Some fault
      → RefusesCollect result (remove_collect_fault state removal workers)
  checked result fault same h = passed_on result fault (remove_collect_fault state removal workers) same
      (subst (CollectFails fault) tested_is (of_least (not (is_worker_count workers)) (is_missing state.records named) (is_too_large state.records) fault h))

  -- what the check lets through has no fault
  pub none_applies : tested ≡ None → remove_collect_fault state removal workers ≡ None
  none_applies h = sym tested_is ∙ h

  -- it may be collected
  pub may_collect : tested ≡ None
      → (is_worker_count workers ≡ true) × (is_too_large state.records ≡ false)
  may_collect h =
      let none = none_of (not (is_worker_count workers)) (is_missing state.records named) (is_too_large state.records) h in
      (not_false (is_worker_count workers) none.0, none.2)

  -- the collection is refused for memory or threads alone
  pub later : tested ≡ None → (result : Result Report Fault) (fault : Fault)
      → IsErrAnd result (λ other. other ≡ fault) → RefusesThreads {X = Report} (Err fault) None
      → RefusesCollect result (remove_collect_fault state removal workers)
  later h result fault same refused =
      passed_on result fault (remove_collect_fault state removal workers) same
      (subst (CollectFails fault) (sym (none_applies h)) (from_threads fault refused))

-- the store without what is named is the one that the removal leaves
pub left_is : (records : Records) (backends : BackLists) (removal : Removal) (named : RemovedRow)
    → named ≡ named_in removal
    → record { records = without records named; backends = backends } ≡
    (removal_outcome (record { records = records; backends = backends }) removal).after
left_is records backends removal named n =
    (λ i. record { records = without records (n i); backends = backends }) ∙ after_is records
    backends removal
