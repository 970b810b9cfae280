use Rattle.std.proofs.Common.{◌≡◌, take}
use Rattle.std.specs.Prelude.{All}
use Rattle.store_front.specs.SessionEntries.{Seat}
use Rattle.store_front.proofs.check.sessions.place_of.Given as goal

abbrev pub invariant-loop-place : goal.invariant-loop-place
invariant-loop-place g l = All (λ (s : Seat). s.number ≡ l.number → ⊥) (take l.place l.sessions)
