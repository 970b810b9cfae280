use Rattle.std.proofs.Common.{◌≡◌, vec_len}
use Rattle.std.specs.Arc.{arc_value}
use Rattle.crossbeam_deque.specs.Handles.{worker_view}
use Rattle.steal_mark.specs.Closing.{ids_of}
use Rattle.steal_mark.specs.Starting.{Starts, pushed_to}
use Rattle.steal_mark.proofs.start.markers.assemble.Given as goal

-- markers were made of the last deques
abbrev pub invariant-loop-deque : goal.invariant-loop-deque
invariant-loop-deque l = (l.seat.table_id ≡ l.initial.seat.table_id) × (l.seat.me.1 ≡ l.initial.seat.me.1) × Starts l.graph (arc_value l.claim_table) (ids_of l.initial.deques.items) l.initial.seat.me.0 l.seat.me.0 l.deques.items l.rows.items l.markers.items

-- one deque less each time
abbrev pub decreases-loop-deque : goal.decreases-loop-deque
decreases-loop-deque l = vec_len l.deques

-- the worker gets the claims of what is in its deque
abbrev pub ghosts-give : goal.ghosts-give
ghosts-give a = record { dealt = (worker_view a.deque.now).pushed; kept = pushed_to a.deques.now }
