use Rattle.meta_types.specs.Rows.{State}
use Rattle.back_model.specs.Held.{lists_in}
use Rattle.collection.specs.Stores.{records_in}
use Rattle.collection.proofs.NamedRows.{let_through, refused, only_memory, after_removal}
use Rattle.collection.proofs.impacts.impact_of_lists.Goals as goal

-- the check refuses what the definitions refuse
pub returns-in_err-check-clause-fault : goal.returns-in_err-check-clause-fault
returns-in_err-check-clause-fault g c =
    let state : State =
    record { records = records_in c.args.records.now; backends = lists_in c.args.back.now } in
    refused state c.args.ns c.args.object c.of-row.result c.of-row.ensures
    c.from_residual.result _ c.from_residual.ensures.1
    c.in_err-check.ensures

pub impact_lent-requires-clause-parent : goal.impact_lent-requires-clause-parent
impact_lent-requires-clause-parent g c κs within = (let_through _ _ _ c.in_ok-check.ensures).0

pub impact_lent-requires-clause-few : goal.impact_lent-requires-clause-few
impact_lent-requires-clause-few g c κs within = (let_through _ _ _ c.in_ok-check.ensures).1

pub returns-clause-fault : goal.returns-clause-fault
returns-clause-fault g c =
    let state : State =
    record { records = records_in c.args.records.now; backends = lists_in c.args.back.now } in
    only_memory state c.args.ns c.args.object c.of-row.result c.of-row.ensures
    c.impact_lent.result c.in_ok-check.ensures c.impact_lent.ensures.fault

-- the impact of records without the row is that of its removal
pub returns-clause-ok : goal.returns-clause-ok
returns-clause-ok g c =
    let state : State =
    record { records = records_in c.args.records.now; backends = lists_in c.args.back.now } in
    after_removal state c.args.ns c.args.object c.of-row.result c.of-row.ensures
    _ c.args.at.0 c.impact_lent.result c.impact_lent.ensures.ok
    c.rows_listed.ensures.lists
