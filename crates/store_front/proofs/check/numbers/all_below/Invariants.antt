use Rattle.std.proofs.Common.{◌<◌, take}
use Rattle.std.specs.Prelude.{All}
use Rattle.store_front.specs.SessionEntries.{Seat}
use Rattle.store_front.proofs.check.numbers.all_below.Given as goal

abbrev pub invariant-loop-session : goal.invariant-loop-session
invariant-loop-session g l = All (λ (s : Seat). s.number < l.opened) (take l.session-index l.sessions)
