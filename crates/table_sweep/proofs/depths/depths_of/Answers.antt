use Rattle.std.proofs.Common.{◌∙◌, ℕ, List, ap, length, subst, sym}
use Rattle.table_sweep.specs.SnapshotPlaces.{depths_to, AreDepths}
use Rattle.table_sweep.proofs.Sought.{depths_are, depths_count}
use Rattle.table_sweep.proofs.depths.depths_of.Goals as goal

pub returns-clause-count : goal.returns-clause-count
returns-clause-count c =
    ap length (c.in_ok-depths.ensures.ok ∙ ap (λ parents. depths_to parents
    (length parents)) c.deref.ensures.value)
    ∙ depths_count c.in_ok-parents.parents.items ∙ c.in_ok-parents.ensures.count

-- what leads up gives depths
pub returns-clause-ok : goal.returns-clause-ok
returns-clause-ok c =
    subst (λ (depths : List ℕ). AreDepths c.args.snapshots.now c.args.goes.now depths)
    (sym (c.in_ok-depths.ensures.ok ∙ ap (λ parents. depths_to parents
    (length parents)) c.deref.ensures.value))
    (depths_are c.args.snapshots.now c.args.goes.now c.in_ok-parents.parents.items
    c.in_ok-parents.ensures.count
    c.in_ok-parents.ensures.ok)
