use Rattle.std.proofs.Common.{◌∙◌, sym, ◌++◌, ◌∷◌, []}
use Rattle.table_sweep.proofs.Numbered.{mask_of_one_next}
use Rattle.table_sweep.proofs.masks.mask_of_one.Goals as goal

pub loop-i-preserved : goal.loop-i-preserved
loop-i-preserved c =
    c.in_ok-push.ensures.items ∙ (λ i. c.loop-i.invariant i ++ c.is_marked.ensures i ∷ [])
    ∙ sym (mask_of_one_next c.args.marks.now c.args.first c.loop-i.i)
