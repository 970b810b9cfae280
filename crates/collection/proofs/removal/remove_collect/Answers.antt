use Rattle.std.proofs.Common.{◌≡◌, ◌∙◌, sym, ap, subst, Bool, not, true, false, ℕ}
use Rattle.std.specs.Prelude.{Option}
use Rattle.meta_types.specs.Faults.{least_of}
use Rattle.meta_types.specs.Limits.{is_worker_count, is_too_large}
use Rattle.meta_types.specs.Rows.{Records, State}
use Rattle.meta_types.specs.Reports.{Report, Collects}
use Rattle.meta_types.specs.declared.fault.Fault.{Fault}
use Rattle.collection.specs.Removing.{is_missing}
use Rattle.collection.specs.declared.removal.RemovedRow.{RemovedRow}
use Rattle.collection.proofs.Bridges.{lent_are}
use Rattle.collection.proofs.Removing.{checked, none_applies, may_collect, later, left_is}
use Rattle.collection.proofs.removal.remove_collect.Goals as goal

-- what is tested of the records that are lent is tested of the store
tested_alike : (workers : ℕ) (named : RemovedRow) (lent records : Records) (fault : Option Fault)
    → is_worker_count workers ≡ true → lent ≡ records
    → least_of false (is_missing lent named) false (is_too_large lent) ≡ fault
    → least_of (not (is_worker_count workers)) (is_missing records named) false (is_too_large records)
    ≡ fault
tested_alike workers named lent records fault allowed same h =
    ap (λ (b : Bool). least_of (not b) (is_missing records named) false (is_too_large records)) allowed
    ∙ ap (λ (r : Records). least_of false (is_missing r named) false (is_too_large r)) (sym same) ∙ h

-- the check refuses what the definitions refuse
pub returns-in_err-check_removal-clause-fault : goal.returns-in_err-check_removal-clause-fault
returns-in_err-check_removal-clause-fault g c =
    let state : State = c.args.state.now.state in
    let e = c.records.ensures in
    checked state c.args.removal.now c.args.crew.now.workers.count c.in_ok-named.named c.in_ok-named.ensures
    c.from_residual-in_err-check_removal.result _ c.from_residual-in_err-check_removal.ensures.1
    (tested_alike c.args.crew.now.workers.count c.in_ok-named.named _ _ _ c.args.crew.now.workers.allowed (lent_are c.records.result.now state.records e.tables e.leases e.next e.profile) c.in_err-check_removal.ensures)

-- what it lets through may be collected
pub collect_checked-requires-clause-few : goal.collect_checked-requires-clause-few
collect_checked-requires-clause-few g c κs within =
    let state : State = c.args.state.now.state in
    let e = c.records.ensures in
    (may_collect state c.args.removal.now c.args.crew.now.workers.count c.in_ok-named.named c.in_ok-named.ensures
    (tested_alike c.args.crew.now.workers.count c.in_ok-named.named _ _ _ c.args.crew.now.workers.allowed (lent_are c.records.result.now state.records e.tables e.leases e.next e.profile) c.in_ok-check_removal.ensures)).1

-- the collection is refused with OutOfMemory or NoWorker only
pub returns-in_err-reports-clause-fault : goal.returns-in_err-reports-clause-fault
returns-in_err-reports-clause-fault g c =
    let state : State = c.args.state.now.state in
    let e = c.records.ensures in
    later state c.args.removal.now c.args.crew.now.workers.count c.in_ok-named.named c.in_ok-named.ensures
    (tested_alike c.args.crew.now.workers.count c.in_ok-named.named _ _ _ c.args.crew.now.workers.allowed (lent_are c.records.result.now state.records e.tables e.leases e.next e.profile) c.in_ok-check_removal.ensures)
    c.from_residual-in_err-reports.result _ c.from_residual-in_err-reports.ensures.1 c.in_err-reports.ensures.fault

pub returns-clause-fault : goal.returns-clause-fault
returns-clause-fault g c =
    let state : State = c.args.state.now.state in
    let e = c.records.ensures in
    none_applies state c.args.removal.now c.args.crew.now.workers.count c.in_ok-named.named c.in_ok-named.ensures
    (tested_alike c.args.crew.now.workers.count c.in_ok-named.named _ _ _ c.args.crew.now.workers.allowed (lent_are c.records.result.now state.records e.tables e.leases e.next e.profile) c.in_ok-check_removal.ensures)

-- a collection without what is named is one of the store that the removal leaves
pub returns-clause-ok : goal.returns-clause-ok
returns-clause-ok g c =
    let state : State = c.args.state.now.state in
    let report : Report = c.in_ok-reports.reports in
    subst (λ (s : State). Collects s c.args.at.0 report.failed report
    c.collect_checked.new.state.state)
    (left_is state.records state.backends c.args.removal.now c.in_ok-named.named
    c.in_ok-named.ensures.1)
    c.in_ok-reports.ensures.ok
