use Rattle.std.proofs.Common.{◌∙◌, ℕ, ◌<◌, subst, sym, arith}
use Rattle.std.specs.Prelude.{IfSome}
use Rattle.table_sweep.proofs.Sought.{sought_more, none_more, at_place}
use Rattle.table_sweep.proofs.places.seek_parent.Goals as goal

-- what isn't needed needs no parent
pub returns-then-not-is_needed-clause-sought : goal.returns-then-not-is_needed-clause-sought
returns-then-not-is_needed-clause-sought c early sought =
    none_more c.args.snapshots.now c.args.at c.args.parents.now.items c.args.needed.now.items
    (sym c.is_needed.ensures ∙ c.if-not-is_needed.true) sought

pub mark_parent-requires : goal.mark_parent-requires
mark_parent-requires c =
    subst (λ (n : ℕ). IfSome c.parent-parent.result (λ place. place < n)) (sym c.requires.needed)
    (at_place c.args.snapshots.now c.args.at c.parent-parent.result c.requires.at
    c.parent-parent.ensures.parent)

pub returns-clause-sought : goal.returns-clause-sought
returns-clause-sought c early sought =
    let count = c.requires.parents in
    let lt = c.requires.at in
    sought_more c.args.snapshots.now c.args.at c.args.parents.now.items c.args.needed.now.items
    c.mark_parent.new.needed.items
    c.parent-parent.result (omega (arith, count, lt)) c.parent-parent.ensures.parent
    c.mark_parent.ensures.grows
    c.mark_parent.ensures.there (c.mark_parent.ensures.late early) sought
