use Rattle.std.proofs.Common.{◌∙◌, subst, List}
use Rattle.std.specs.Prelude.{option_copied}
use Rattle.meta_types.specs.Rows.{BackLists}
use Rattle.meta_types.specs.Text.{Text}
use Rattle.table_sweep.specs.BlobMarks.{AreBlobMarks}
use Rattle.collection.specs.Arrived.{arrived_in}
use Rattle.collection.specs.Leaving.{IsPlanLess}
use Rattle.collection.proofs.collect_store.plan_held.Goals as goal

-- what is lent is what the backends hold
pub returns-clause-ok : goal.returns-clause-ok
returns-clause-ok g c =
    subst (λ (back : BackLists). IsPlanLess (arrived_in c.args.arrived.now)
    (option_copied c.args.task.now.without) back c.args.task.now.at.0 c.in_ok-planned.planned)
    (c.rows_lent.ensures.lists ∙ c.in_ok-lent.ensures.ok)
    c.in_ok-planned.ensures.ok

-- in the order in which it is lent
pub returns-clause-blobs : goal.returns-clause-blobs
returns-clause-blobs g c =
    let planned = c.in_ok-planned.planned in
    subst (λ (arrived : List Text). AreBlobMarks planned.plan.report.backend.blobs arrived
    planned.plan.blobs.items)
    (c.rows_lent.ensures.blobs ∙ c.in_ok-lent.ensures.arrived)
    c.in_ok-planned.ensures.blobs
