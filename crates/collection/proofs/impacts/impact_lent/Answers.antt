use Rattle.std.proofs.Common.{◌≡◌, ◌∙◌}
use Rattle.std.specs.Prelude.{Result, Ok, Err, None}
use Rattle.std.specs.Result.{IsErrAnd}
use Rattle.meta_types.specs.Faults.{Refuses}
use Rattle.meta_types.specs.declared.fault.Fault.{Fault}
use Rattle.meta_types.specs.declared.fault.Fault.TheVariants.{OutOfMemory}
use Rattle.meta_types.specs.Rows.{Records, BackLists, State}
use Rattle.table_sweep.specs.Backed.{lists_of}
use Rattle.collection.specs.Impacts.{less_row}
use Rattle.collection.specs.Stores.{records_in}
use Rattle.collection.proofs.NamedRows.{is_impact}
use Rattle.collection.proofs.impacts.impact_lent.Goals as goal

memory_fails : {T : Type 0} (result : Result T Fault) (fault : Fault)
    → IsErrAnd result (λ other. other ≡ fault) → fault ≡ OutOfMemory → Refuses result None
memory_fails (Ok x) fault same h = absurd same
memory_fails (Err other) fault same h = same ∙ h

-- memory alone refuses the second plan
pub returns-in_err-then-clause-fault : goal.returns-in_err-then-clause-fault
returns-in_err-then-clause-fault g c =
    let passed = c.from_residual-in_err-then in
    memory_fails passed.result _ passed.ensures.1 c.in_err-then.ensures.fault

-- what is left are the records without the row
pub returns-clause-ok : goal.returns-clause-ok
returns-clause-ok g c =
    let row = c.args.row.now in
    let kept : Records = records_in c.args.records.now in
    let back : BackLists = lists_of c.args.back.now in
    let store : Records → State = λ records. record { records = records; backends = back } in
    is_impact (store kept) (store (less_row kept row)) c.args.at.0 c.in_ok-now.now c.in_ok-then.then
    c.of.result c.in_ok-now.ensures.ok c.in_ok-then.ensures.ok c.of.ensures
