use Rattle.std.proofs.Common.{◌∙◌, ap, subst}
use Rattle.meta_types.specs.Limits.{is_too_large}
use Rattle.meta_types.specs.Rows.{Records}
use Rattle.table_sweep.specs.Backed.{lists_of}
use Rattle.table_sweep.specs.Plans.{IsPlanOfRows}
use Rattle.collection.proofs.planning.plan_listed.Goals as goal

-- the rows that are lent are those of the list
pub returns-clause-ok : goal.returns-clause-ok
returns-clause-ok g c =
    subst (λ (r : Records). IsPlanOfRows r c.args.namespaces (lists_of c.args.back.now) c.args.at.0
    c.in_ok-plan.plan)
    c.rows-rows.ensures.records c.in_ok-plan.ensures.ok

-- they are as many
pub plan_rows-requires-clause-few : goal.plan_rows-requires-clause-few
plan_rows-requires-clause-few g c κs within =
    ap is_too_large c.rows-rows.ensures.records ∙ c.requires.few

pub returns-clause-blobs : goal.returns-clause-blobs
returns-clause-blobs g c = c.in_ok-plan.ensures.blobs
