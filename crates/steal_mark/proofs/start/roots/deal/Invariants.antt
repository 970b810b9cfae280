use Rattle.std.proofs.Common.{◌≡◌, ◌<◌, take, length}
use Rattle.steal_mark.specs.Starting.{Deals}
use Rattle.steal_mark.proofs.start.roots.deal.Given as goal

-- the roots so far are dealt
abbrev pub invariant-loop-root : goal.invariant-loop-root
invariant-loop-root l = (l.seat.table_id ≡ l.initial.seat.table_id) × (l.seat.me.1 ≡ l.initial.seat.me.1) × (l.next < length l.deques) × Deals l.claim_table.shared.key (take l.root-index l.roots) l.initial.seat.me.0 l.seat.me.0 l.initial.deques l.deques
