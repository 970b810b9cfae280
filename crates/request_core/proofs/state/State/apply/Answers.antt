use Rattle.request_core.proofs.Following.{answers_plainly, answers_quiet, answers_sound}
use Rattle.request_core.proofs.EachRequest.{step_sound}
use Rattle.request_core.proofs.state.State.apply.Goals as goal

-- OutOfMemory is one fault outside
pub returns-clause-step : goal.returns-clause-step
returns-clause-step g c = rw c.plain.ensures (answers_plainly _ _ _ _ c.dispatch.ensures)

-- it answers Done, or the state is as before
pub returns-clause-quiet : goal.returns-clause-quiet
returns-clause-quiet g c =
    rw c.plain.ensures (answers_quiet _ _ _ _ (answers_plainly _ _ _ _ c.dispatch.ensures))

-- where the state was sound, it is
pub returns-clause-sound : goal.returns-clause-sound
returns-clause-sound g c =
    answers_sound _ _ _ _ (answers_plainly _ _ _ _ c.dispatch.ensures) c.requires
    (step_sound _ _ c.requires)
