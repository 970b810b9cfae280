use Rattle.std.proofs.Common.{◌≡◌, ◌<◌, ℕ, length, slice_index_or}
use Rattle.store_front.specs.SessionEntries.{Seat}
use Rattle.store_front.proofs.check.sessions.first_longer.Given as goal

abbrev pub invariant-loop-place : goal.invariant-loop-place
invariant-loop-place g l = (j : ℕ) (d : Seat) (e : ℕ) → j < l.place → slice_index_or l.next j e ≡ length (slice_index_or l.sessions j d).list
