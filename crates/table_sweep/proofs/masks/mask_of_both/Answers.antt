use Rattle.std.proofs.Common.{◌∙◌, sym, ◌++◌, ◌∷◌, []}
use Rattle.table_sweep.proofs.Numbered.{mask_of_both_next}
use Rattle.table_sweep.proofs.masks.mask_of_both.Goals as goal

pub loop-i-preserved : goal.loop-i-preserved
loop-i-preserved c =
    c.in_ok-push.ensures.items ∙ (λ i. c.loop-i.invariant i ++ c.is_marked_in_one.ensures i ∷ [])
    ∙ sym (mask_of_both_next c.args.marks.now c.args.full c.args.flat c.loop-i.i)
