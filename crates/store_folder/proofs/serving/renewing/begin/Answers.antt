use Rattle.std.proofs.Common.{rules}
use Rattle.store_folder.proofs.Between.{stays_passes, passes_both, passes_closes, closes_kept}
use Rattle.store_folder.proofs.serving.renewing.begin.Goals as goal

pub keep_room-requires : goal.keep_room-requires
keep_room-requires g c = record { rests = c.leave-folder.ensures.rests c.requires.rests }

pub try_checkpoint-requires : goal.try_checkpoint-requires
try_checkpoint-requires g c =
    let rests = c.in-Ok.ensures.ok.rests (c.leave-folder.ensures.rests c.requires.rests) in
    search rules

-- there is no room
pub returns-in-Err-clause-failed : goal.returns-in-Err-clause-failed
returns-in-Err-clause-failed g c =
    passes_closes _ _ _ _ _ _ _ _ _ (stays_passes _ _ _ _ _ _ c.leave-folder.ensures)
    (closes_kept _ _ _ _ _ _ _ c.in-Err.ensures.failed c.in-Err.ensures.finds)

-- no checkpoint was wanted
pub returns-then-not-takes_checkpoint-clause-ok : goal.returns-then-not-takes_checkpoint-clause-ok
returns-then-not-takes_checkpoint-clause-ok g c =
    passes_both _ _ _ _ _ _ _ (stays_passes _ _ _ _ _ _ c.leave-folder.ensures)
    (stays_passes _ _ _ _ _ _ c.in-Ok.ensures.ok)

-- it wasn't selected
pub returns-in-Err-try_checkpoint-clause-failed : goal.returns-in-Err-try_checkpoint-clause-failed
returns-in-Err-try_checkpoint-clause-failed g c =
    passes_closes _ _ _ _ _ _ _ _ _ (passes_both _ _ _ _ _ _ _
    (stays_passes _ _ _ _ _ _ c.leave-folder.ensures) (stays_passes _ _ _ _ _ _ c.in-Ok.ensures.ok))
    c.in-Err-try_checkpoint.ensures.failed

pub returns-clause-ok : goal.returns-clause-ok
returns-clause-ok g c =
    passes_both _ _ _ _ _ _ _ (passes_both _ _ _ _ _ _ _ (passes_both _ _ _ _ _ _ _
    (stays_passes _ _ _ _ _ _ c.leave-folder.ensures) (stays_passes _ _ _ _ _ _ c.in-Ok.ensures.ok))
    c.in-Ok-try_checkpoint.ensures.ok) (stays_passes _ _ _ _ _ _ c.leave.ensures)
