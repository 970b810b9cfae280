use Rattle.std.proofs.Common.{◌≡◌, vec_len}
use Rattle.steal_mark.specs.Closing.{Balanced}
use Rattle.steal_mark.proofs.finish.close_all.close_all.Given as goal

-- the equation holds of the deques that are open
abbrev pub invariant-loop-deque : goal.invariant-loop-deque
invariant-loop-deque l = (l.seat.table_id ≡ l.initial.seat.table_id) × (l.seat.me.1 ≡ l.initial.seat.me.1) × Balanced l.graph l.deques.items l.rows l.lists l.seat.me.0

-- one deque less each time
abbrev pub decreases-loop-deque : goal.decreases-loop-deque
decreases-loop-deque l = vec_len l.deques
