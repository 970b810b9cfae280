use Rattle.std.proofs.Common.{◌+◌, ◌-◌, ◌∙◌, sym, ap, arith, length, slice_get}
use Rattle.table_sweep.proofs.Steps.{deeper_step, no_deeper_step, known_step}
use Rattle.table_sweep.proofs.depths.depth_at.Goals as goal

pub returns-in-Some : goal.returns-in-Some
returns-in-Some c =
    let parents = c.args.parents.now in
    let steps = c.loop-depth.depth in
    ap (λ n. steps + n) c.min.ensures
    ∙ known_step parents c.args.place c.loop-depth.at steps c.in-Some.known _ c.loop-depth-test.true
    (sym (ap (λ depths. slice_get depths c.loop-depth.at) c.requires) ∙ sym c.known_at.ensures ∙ c.in-Some.is)
    (c.loop-depth.invariant (length parents - steps) (omega (arith, c.loop-depth-test.true)))

pub returns-in-None : goal.returns-in-None
returns-in-None c =
    let rest = length c.args.parents.now - c.loop-depth.depth in
    no_deeper_step c.args.parents.now c.loop-depth.at c.loop-depth.depth rest _
    (sym c.parent_at.ensures ∙ c.in-None.is) (c.loop-depth.invariant rest (omega
    (arith, c.loop-depth-test.true)))

pub loop-depth-preserved : goal.loop-depth-preserved
loop-depth-preserved c rest e =
    deeper_step c.args.parents.now c.loop-depth.at c.in-Some-parent_at.parent c.loop-depth.depth
    rest _ (sym c.parent_at.ensures ∙ c.in-Some-parent_at.is) (c.loop-depth.invariant (rest + 1)
    (omega (arith, e)))

pub returns : goal.returns
returns c = omega (arith, c.loop-depth.invariant 0 (omega (arith, c.loop-depth-test.false, c.loop-depth.auto)))
