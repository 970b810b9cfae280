use Rattle.std.proofs.Common.{ℕ, ◌≡◌, ◌<◌}
use Rattle.std.specs.Prelude.{count_by, ◌==◌}
use Rattle.store_front.specs.SessionEntries.{Seat}
use Rattle.store_front.proofs.check.numbers.are_each.Given as goal

abbrev pub invariant-loop-number : goal.invariant-loop-number
invariant-loop-number g l = (k : ℕ) → k < l.number → count_by (λ (s : Seat). s.number == k) l.sessions ≡ 1
