use Rattle.std.proofs.Common.{◌≡◌, take}
use Rattle.std.specs.Prelude.{count_by, ◌==◌}
use Rattle.store_front.specs.SessionEntries.{Seat}
use Rattle.store_front.proofs.check.numbers.count_of.Given as goal

abbrev pub invariant-loop-session : goal.invariant-loop-session
invariant-loop-session g l = l.count ≡ count_by (λ (s : Seat). s.number == l.number) (take l.session-index l.sessions)
