use Rattle.std.proofs.Common.{◌∙◌, refl, arith}
use Rattle.std.proofs.lemmas.List.Sorted.{IsPermutation-refl, IsPermutation-trans, length_permutation}
use Rattle.table_sweep.proofs.depths.sort_each.Goals as goal

pub loop-at-init : goal.loop-at-init
loop-at-init c = (IsPermutation-refl c.args.keys.now, omega arith, refl)

pub loop-at-preserved : goal.loop-at-preserved
loop-at-preserved c = (
  IsPermutation-trans c.args.keys.now c.loop-at.keys c.sort_before-start.new.keys
      c.loop-at.invariant.0 c.sort_before-start.ensures.keys,
  omega (arith, c.sort_before-start.ensures.start),
  length_permutation c.loop-at.keys c.sort_before-start.new.keys c.sort_before-start.ensures.keys ∙
      c.loop-at.invariant.2,
)

pub returns : goal.returns
returns c = IsPermutation-trans c.args.keys.now c.loop-at.keys c.sort_run.new.keys
    c.loop-at.invariant.0 c.sort_run.ensures
