use Rattle.std.proofs.Common.{◌∙◌, refl, ap, subst, length}
use Rattle.std.specs.Prelude.{option_copied}
use Rattle.meta_types.specs.Limits.{is_too_large}
use Rattle.meta_types.specs.Rows.{Records, content_key, ingest_key, snap_key}
use Rattle.row_tables.specs.Arrived.{sorted}
use Rattle.table_sweep.specs.Backed.{lists_of}
use Rattle.table_sweep.specs.InKeyOrder.{records_in_key_order}
use Rattle.table_sweep.specs.Plans.{IsPlanOfRows}
use Rattle.gc_graph.specs.Lent.{lent_in}
use Rattle.collection.specs.Arrived.{arrived_in, in_order}
use Rattle.collection.specs.Leaving.{listed_by}
use Rattle.collection.specs.Stores.{records_in}
use Rattle.collection.proofs.Bridges.{Agree, plan_as, large_as, large_arrived}
use Rattle.collection.proofs.LeftOut.{agree_listed, others_as}
use Rattle.collection.proofs.arrived.ArrivedRecords.plan.Goals as goal

-- the rows that are listed are those that arrived but the one that is named
pub returns-clause-ok : goal.returns-clause-ok
returns-clause-ok g c =
    let kept = c.args.self.now in
    let lent : Records = lent_in c.rows-arrived.result kept.leases kept.profile in
    let rows : Records = arrived_in kept in
    let others = c.in_ok-others.others in
    let plan = c.in_ok-plan.plan in
    let at = c.args.task.now.at.0 in
    let agree : Agree lent rows = record {
      images = c.rows-arrived.ensures.images;
      containers = c.rows-arrived.ensures.containers;
      content = c.rows-arrived.ensures.content;
      ingests = c.rows-arrived.ensures.ingests;
      snapshots = c.rows-arrived.ensures.snapshots;
      leases = refl;
      profile = refl;
    } in
    record {
      others = others_as (option_copied c.args.task.now.without) others _ _ _ _
          (ap (λ (r : Records). r.tables.images) c.in_ok-listed.ensures.ok ∙ agree.images)
          (ap (λ (r : Records). r.leases) c.in_ok-listed.ensures.ok)
          c.in_ok-others.ensures.others;
      plan_is = plan_as (listed_by others lent) (listed_by others rows) c.count_ns-namespaces.result
          (length kept.tables.namespaces) _ at plan (agree_listed others lent rows agree)
          c.count_ns-namespaces.ensures
          (subst (λ (r : Records). IsPlanOfRows r c.count_ns-namespaces.result
          (lists_of c.args.back.now) at plan)
          (c.in_ok-others.ensures.left ∙ ap (listed_by others) c.in_ok-listed.ensures.ok)
          c.in_ok-plan.ensures.ok);
    }

-- the rows that are listed are as many of those that are counted
pub plan_listed-requires-clause-few : goal.plan_listed-requires-clause-few
plan_listed-requires-clause-few g c κs within =
    let kept = c.args.self.now in
    let lent : Records = lent_in c.rows-arrived.result kept.leases kept.profile in
    ap is_too_large c.in_ok-others.ensures.left
    ∙ large_arrived _ lent c.in_ok-listed.ensures.ok
    (large_as (records_in_key_order lent) (records_in (in_order kept))
    (ap (sorted content_key) c.rows-arrived.ensures.content) (ap (sorted ingest_key) c.rows-arrived.ensures.ingests) (ap (sorted snap_key) c.rows-arrived.ensures.snapshots)
    ∙ c.requires.few)

pub returns-clause-blobs : goal.returns-clause-blobs
returns-clause-blobs g c = c.in_ok-plan.ensures.blobs
