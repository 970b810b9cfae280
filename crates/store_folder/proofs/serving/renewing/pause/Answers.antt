use Rattle.store_folder.proofs.Between.{stays_passes, passes_both}
use Rattle.store_folder.proofs.serving.renewing.pause.Goals as goal

-- a witness alone
pub returns-then-is_early-clause-ok : goal.returns-then-is_early-clause-ok
returns-then-is_early-clause-ok g c = stays_passes _ _ _ _ _ _ c.leave.ensures

pub returns-clause-ok : goal.returns-clause-ok
returns-clause-ok g c =
    passes_both _ _ _ _ _ _ _ c.in-Ok.ensures.ok (stays_passes _ _ _ _ _ _ c.leave-2.ensures)
