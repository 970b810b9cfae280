use Rattle.store_folder.proofs.Between.{stays_passes, passes_both, passes_closes, closes_kept}
use Rattle.store_folder.proofs.serving.renewing.renew_back.Goals as goal

pub keep_room-requires : goal.keep_room-requires
keep_room-requires g c = record { rests = c.in-Ok.ensures.ok.rests c.requires.rests }

-- there is no room
pub returns-in-Err-keep_room-clause-failed : goal.returns-in-Err-keep_room-clause-failed
returns-in-Err-keep_room-clause-failed g c =
    passes_closes _ _ _ _ _ _ _ _ _ c.in-Ok.ensures.ok
    (closes_kept _ _ _ _ _ _ _ c.in-Err-keep_room.ensures.failed
    c.in-Err-keep_room.ensures.finds)

pub returns-clause-ok : goal.returns-clause-ok
returns-clause-ok g c =
    passes_both _ _ _ _ _ _ _ c.in-Ok.ensures.ok
    (stays_passes _ _ _ _ _ _ c.in-Ok-keep_room.ensures.ok)
