use Rattle.request_core.proofs.EmptyStore.{empty_is_sound}
use Rattle.request_core.proofs.state.State.empty_with.Goals as goal

-- nothing is stored
pub returns-clause-sound : goal.returns-clause-sound
returns-clause-sound g c =
    rw (
      c.new.ensures,
      c.fresh.ensures.empty,
      c.fresh-2.ensures.empty,
      c.empty_with.ensures,
    )
    empty_is_sound
