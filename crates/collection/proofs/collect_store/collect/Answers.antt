use Rattle.std.proofs.Common.{◌∙◌, sym, ap}
use Rattle.meta_types.specs.Limits.{is_too_large}
use Rattle.collection.specs.Stores.{records_in}
use Rattle.collection.proofs.Bridges.{lent_are, are_few}
use Rattle.collection.proofs.collect_store.collect.Goals as goal

-- after the check the rows are few enough
pub collect_checked-requires-clause-few : goal.collect_checked-requires-clause-few
collect_checked-requires-clause-few g c κs within =
    let e = c.records.ensures in
    ap is_too_large (sym (lent_are c.records.result.now c.args.state.now.state.records e.tables e.leases e.next e.profile))
    ∙ are_few (is_too_large (records_in c.records.result.now)) c.in_ok-check.ensures

-- nothing is left out
pub returns-clause-ok : goal.returns-clause-ok
returns-clause-ok g c = c.in_ok-reports.ensures.ok
