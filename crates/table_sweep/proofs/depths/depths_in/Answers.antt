use Rattle.std.proofs.Common.{◌∙◌, sym, ◌++◌, ◌∷◌, []}
use Rattle.table_sweep.proofs.Steps.{depths_more}
use Rattle.table_sweep.proofs.depths.depths_in.Goals as goal

pub loop-place-preserved : goal.loop-place-preserved
loop-place-preserved c =
    c.in_ok-push.ensures.items ∙ (λ i. c.loop-place.invariant i ++ c.depth_at-depth.ensures i ∷ [])
    ∙ sym (depths_more c.args.parents.now c.loop-place.place)
