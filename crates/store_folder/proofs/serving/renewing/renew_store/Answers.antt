use Rattle.std.proofs.Common.{rules}
use Rattle.store_folder.proofs.Between.{stays_passes, passes_both, passes_closes, closes_kept}
use Rattle.store_folder.proofs.serving.renewing.renew_store.Goals as goal

pub keep_room-requires : goal.keep_room-requires
keep_room-requires g c = record { rests = c.in-Ok.ensures.ok.rests c.requires.rests }

pub renew_back-requires : goal.renew_back-requires
renew_back-requires g c =
    let rests = c.in-Ok-keep_room.ensures.ok.rests (c.in-Ok.ensures.ok.rests c.requires.rests) in
    search rules

-- there is no room
pub returns-in-Err-keep_room-clause-failed : goal.returns-in-Err-keep_room-clause-failed
returns-in-Err-keep_room-clause-failed g c =
    passes_closes _ _ _ _ _ _ _ _ _ c.in-Ok.ensures.ok
    (closes_kept _ _ _ _ _ _ _ c.in-Err-keep_room.ensures.failed
    c.in-Err-keep_room.ensures.finds)

-- the checkpoint stays where it is
pub returns-then-not-has_more-clause-ok : goal.returns-then-not-has_more-clause-ok
returns-then-not-has_more-clause-ok g c =
    passes_both _ _ _ _ _ _ _ c.in-Ok.ensures.ok
    (stays_passes _ _ _ _ _ _ c.in-Ok-keep_room.ensures.ok)

-- another one wasn't selected
pub returns-in-Err-renew_back-clause-failed : goal.returns-in-Err-renew_back-clause-failed
returns-in-Err-renew_back-clause-failed g c =
    passes_closes _ _ _ _ _ _ _ _ _ (passes_both _ _ _ _ _ _ _ c.in-Ok.ensures.ok
    (stays_passes _ _ _ _ _ _ c.in-Ok-keep_room.ensures.ok)) c.in-Err-renew_back.ensures.failed

pub returns-clause-ok : goal.returns-clause-ok
returns-clause-ok g c =
    passes_both _ _ _ _ _ _ _ (passes_both _ _ _ _ _ _ _ c.in-Ok.ensures.ok
    (stays_passes _ _ _ _ _ _ c.in-Ok-keep_room.ensures.ok)) c.in-Ok-renew_back.ensures.ok
