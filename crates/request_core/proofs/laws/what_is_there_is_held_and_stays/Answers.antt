use Rattle.request_core.proofs.HeldStays.{what_is_held_stays}
use Rattle.request_core.proofs.ThereHeld.{what_is_there_is_held}
use Rattle.request_core.proofs.laws.what_is_there_is_held_and_stays.Goals as goal

-- made or there before, it is there, and held
pub returns-clause-what_is_there_is_held : goal.returns-clause-what_is_there_is_held
returns-clause-what_is_there_is_held c = what_is_there_is_held

-- a path leads to it from the lease
pub returns-clause-what_is_held_stays : goal.returns-clause-what_is_held_stays
returns-clause-what_is_held_stays c = what_is_held_stays
