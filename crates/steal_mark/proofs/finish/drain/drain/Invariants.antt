use Rattle.std.proofs.Common.{◌≡◌}
use Rattle.std.specs.Prelude.{Some}
use Rattle.crossbeam_deque.specs.Handles.{worker_flavor, worker_view}
use Rattle.steal_mark.specs.Draining.{Drains}
use Rattle.steal_mark.proofs.finish.drain.drain.Given as goal

-- the counted nodes are drained
abbrev pub invariant-loop-count : goal.invariant-loop-count
invariant-loop-count l = (l.seat.table_id ≡ l.initial.seat.table_id) × (l.seat.me.1 ≡ l.initial.seat.me.1) × (worker_flavor l.deque ≡ worker_flavor l.initial.deque) × Drains l.graph l.count l.initial.seat.me.0 l.seat.me.0 (worker_view l.initial.deque) (worker_view l.deque) l.initial.list.items l.list.items

-- the graph of the claim words
abbrev pub ghosts-learn : goal.ghosts-learn
ghosts-learn a = record { graph = Some a.claim_table.now.shared.key }
