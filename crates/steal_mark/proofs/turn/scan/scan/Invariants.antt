use Rattle.std.proofs.Common.{◌≡◌, take}
use Rattle.crossbeam_deque.specs.Handles.{worker_view}
use Rattle.steal_mark.specs.Dealing.{SameDeque}
use Rattle.steal_mark.specs.Growing.{Grows}
use Rattle.steal_mark.proofs.turn.scan.scan.Given as goal

-- the targets so far were looked at
abbrev pub invariant-loop-target : goal.invariant-loop-target
invariant-loop-target l = (l.seat.table_id ≡ l.initial.seat.table_id) × (l.seat.me.1 ≡ l.initial.seat.me.1) × SameDeque l.initial.deque l.deque × Grows (take l.target-index l.targets) l.initial.seat.me.0 l.seat.me.0 (worker_view l.initial.deque) (worker_view l.deque)
