use Rattle.std.proofs.Common.{◌∙◌, refl, subst, length}
use Rattle.meta_types.specs.Limits.{is_too_large}
use Rattle.meta_types.specs.Rows.{Records}
use Rattle.table_sweep.specs.Backed.{lists_of}
use Rattle.table_sweep.specs.InKeyOrder.{records_in_key_order}
use Rattle.table_sweep.specs.Plans.{IsPlanOfRows}
use Rattle.gc_graph.specs.Lent.{lent_in}
use Rattle.collection.specs.Stores.{records_in}
use Rattle.collection.proofs.Bridges.{plan_of_lent, large_as, large_arrived, are_few}
use Rattle.collection.proofs.planning.plan_store.Goals as goal

-- rows that are lent as they arrived are the records' in order
pub returns-clause-ok : goal.returns-clause-ok
returns-clause-ok g c =
    let kept = c.args.records.now in
    let lent : Records = lent_in c.arrived-arrived.result c.arrived-leases.result.now kept.profile
    in
    plan_of_lent lent (records_in kept) c.count_ns-namespaces.result
    (length kept.tables.namespaces) _ c.args.at.0 c.in_ok-plan.plan
    (record {
      images = c.arrived-arrived.ensures.images;
      containers = c.arrived-arrived.ensures.containers;
      content = c.arrived-arrived.ensures.content;
      ingests = c.arrived-arrived.ensures.ingests;
      snapshots = c.arrived-arrived.ensures.snapshots;
      leases = c.arrived-leases.ensures;
      profile = refl;
    })
    c.count_ns-namespaces.ensures
    (subst (λ (rows : Records). IsPlanOfRows rows c.count_ns-namespaces.result
    (lists_of c.args.back.now) c.args.at.0 c.in_ok-plan.plan)
    c.in_ok-listed.ensures.ok c.in_ok-plan.ensures.ok)

-- as many rows are listed as there are in order
pub plan_listed-requires-clause-few : goal.plan_listed-requires-clause-few
plan_listed-requires-clause-few g c κs within =
    let kept = c.args.records.now in
    let lent : Records = lent_in c.arrived-arrived.result c.arrived-leases.result.now kept.profile
    in
    large_arrived _ lent c.in_ok-listed.ensures.ok
    (large_as (records_in_key_order lent) (records_in kept)
    c.arrived-arrived.ensures.content c.arrived-arrived.ensures.ingests c.arrived-arrived.ensures.snapshots
    ∙ are_few (is_too_large (records_in kept)) c.in_ok-check.ensures)

pub returns-clause-blobs : goal.returns-clause-blobs
returns-clause-blobs g c = c.in_ok-plan.ensures.blobs
