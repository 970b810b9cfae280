use Rattle.store_front.proofs.Comparing.{must_be}
use Rattle.store_front.proofs.check.sessions.place_of.Goals as goal

-- some session has the number
pub returns-clause-number : goal.returns-clause-number
returns-clause-number g c = λ d. absurd (must_be c.args.number c.loop-place.place c.args.sessions.now c.loop-place.invariant c.loop-place-test.false c.requires)
