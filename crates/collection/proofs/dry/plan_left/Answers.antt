use Rattle.std.proofs.Common.{◌∙◌, refl, ap, subst, length}
use Rattle.meta_types.specs.Rows.{Records}
use Rattle.gc_graph.specs.Lent.{lent_in}
use Rattle.table_sweep.specs.Backed.{lists_of}
use Rattle.table_sweep.specs.InKeyOrder.{records_in_key_order}
use Rattle.table_sweep.specs.Plans.{IsPlanOfRows}
use Rattle.collection.specs.Impacts.{less_row, listed_less}
use Rattle.collection.specs.Stores.{records_in}
use Rattle.collection.proofs.Bridges.{Agree, plan_of_lent, large_as, large_arrived}
use Rattle.collection.proofs.LessRows.{agree_less, few_listed, same_names}
use Rattle.collection.proofs.dry.plan_left.Goals as goal

-- rows that are listed as they arrived, but the row, are in order the records without it
pub returns-clause-ok : goal.returns-clause-ok
returns-clause-ok g c =
    let kept = c.args.records.now in
    let row = c.args.row.now in
    let lent : Records = lent_in c.arrived-arrived.result c.arrived-leases.result.now kept.profile
    in
    let agree : Agree (records_in_key_order lent) (records_in kept) = record {
      images = c.arrived-arrived.ensures.images;
      containers = c.arrived-arrived.ensures.containers;
      content = c.arrived-arrived.ensures.content;
      ingests = c.arrived-arrived.ensures.ingests;
      snapshots = c.arrived-arrived.ensures.snapshots;
      leases = c.arrived-leases.ensures;
      profile = refl;
    } in
    plan_of_lent (listed_less row lent) (less_row (records_in kept) row)
    c.count_ns-namespaces.result
    (length (less_row (records_in kept) row).tables.namespaces) _ c.args.at.0 c.in_ok-plan.plan
    (agree_less lent (records_in kept) agree c.len.ensures.order c.len-2.ensures.order
    c.len-3.ensures.order row c.requires.unnumbered)
    (c.count_ns-namespaces.ensures ∙ same_names row (records_in kept))
    (subst (λ (rows : Records). IsPlanOfRows rows c.count_ns-namespaces.result
    (lists_of c.args.back.now) c.args.at.0 c.in_ok-plan.plan)
    (c.rows-rows.ensures.records ∙ c.leave.ensures ∙ ap (listed_less row) c.in_ok-listed.ensures.ok)
    c.in_ok-plan.ensures.ok)

-- they are no more
pub plan_rows-requires-clause-few : goal.plan_rows-requires-clause-few
plan_rows-requires-clause-few g c κs within =
    let kept = c.args.records.now in
    let row = c.args.row.now in
    let lent : Records = lent_in c.arrived-arrived.result c.arrived-leases.result.now kept.profile
    in
    few_listed _ lent row (c.rows-rows.ensures.records ∙ c.leave.ensures ∙ ap (listed_less row)
    c.in_ok-listed.ensures.ok)
    (large_arrived lent lent refl (large_as (records_in_key_order lent) (records_in kept)
    c.arrived-arrived.ensures.content c.arrived-arrived.ensures.ingests
    c.arrived-arrived.ensures.snapshots
    ∙ c.requires.few))
