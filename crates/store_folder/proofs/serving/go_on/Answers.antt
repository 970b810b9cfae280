use Rattle.std.proofs.Common.{refl, rules}
use Rattle.store_folder.proofs.Rounds.{stops_so, stopped_all, stopped_due, ended_all, failed_so, advances_run, finishes_all, finishes_failed, finishes_paused}
use Rattle.store_folder.proofs.serving.go_on.Goals as goal

-- the run failed
pub returns-in-Err-clause-ended : goal.returns-in-Err-clause-ended
returns-in-Err-clause-ended g c =
    finishes_failed _ _ _ _ g.met.S.Restored.keeps _ _ _ _ _ _ _ _ _
    c.run_folder-ran.result.folder c.run_folder-ran.ensures.reads _ _ _ _ _ _
    c.run_folder-ran.ensures.kept c.close.ensures.reads c.close.ensures.finds
    c.close.ensures.ended (failed_so _ _ _ c.in-Err.is c.run_folder-ran.ensures.error)

-- all that there was to read was read
pub returns-in-End-clause-ended : goal.returns-in-End-clause-ended
returns-in-End-clause-ended g c =
    finishes_all _ _ _ _ g.met.S.Restored.keeps _ _ _ _ _ _ _ _ _
    c.run_folder-ran.result.folder c.run_folder-ran.ensures.reads _ _ _ _ _ _ _
    (stopped_all _ _ (stops_so _ _ _ c.in-Ok.is c.in-End.is) c.run_folder-ran.ensures.answers)
    c.leave-last.ensures c.close-in-End.ensures.reads
    (λ kept had told may. had.log.only told (c.close-in-End.ensures.finds told may))
    c.close-in-End.ensures.ended
    (ended_all _ _ (stops_so _ _ _ c.in-Ok.is c.in-End.is) c.run_folder-ran.ensures.end).0

-- a write failed, though the run didn't
pub returns-then-not-is_at_rest-clause-ended : goal.returns-then-not-is_at_rest-clause-ended
returns-then-not-is_at_rest-clause-ended g c =
    finishes_failed _ _ _ _ g.met.S.Restored.keeps _ _ _ _ _ _ _ _ _
    c.run_folder-ran.result.folder c.run_folder-ran.ensures.reads _ _ _ _ _ _
    c.run_folder-ran.ensures.kept c.close-then-not-is_at_rest.ensures.reads
    c.close-then-not-is_at_rest.ensures.finds c.close-then-not-is_at_rest.ensures.ended refl

pub pause-requires : goal.pause-requires
pause-requires g c =
    let rests = c.run_folder-ran.result.rests c.if-not-is_at_rest.false in search rules

-- the pause failed
pub returns-in-Err-pause-clause-ended : goal.returns-in-Err-pause-clause-ended
returns-in-Err-pause-clause-ended g c =
    rw c.pause.ensures.same
    (finishes_paused _ _ _ _ g.met.S.Restored.keeps _ _ _ _ _ _ _ _ _
    c.run_folder-ran.result.folder c.run_folder-ran.ensures.reads _ _ _ _ _
    (stopped_due _ _ (stops_so _ _ _ c.in-Ok.is c.in-CheckpointDue.is)
    c.run_folder-ran.ensures.answers)
    c.in-Err-pause.ensures.failed c.in-Err-pause.ensures.error refl)

-- it goes on
pub returns-clause-next : goal.returns-clause-next
returns-clause-next g c =
    rw c.pause.ensures.same
    (advances_run _ _ _ _ g.met.S.Restored.keeps _ _ _ _ _ _ _ _ _
    c.run_folder-ran.result.folder c.run_folder-ran.ensures.reads _ _
    (stopped_due _ _ (stops_so _ _ _ c.in-Ok.is c.in-CheckpointDue.is)
    c.run_folder-ran.ensures.answers)
    c.in-Ok-pause.ensures.ok)

pub returns-clause-rests : goal.returns-clause-rests
returns-clause-rests g c =
    c.in-Ok-pause.ensures.ok.rests (c.run_folder-ran.result.rests c.if-not-is_at_rest.false)
