use Rattle.std.proofs.Common.{◌≡◌, ◌++◌}
use Rattle.steal_mark.specs.Team.{Apart}
use Rattle.steal_mark.proofs.finish.take_apart.take_apart.Given as goal

-- the markers so far are apart, and the rest is to come
abbrev pub invariant-loop-marker : goal.invariant-loop-marker
invariant-loop-marker l = (l.seat.table_id ≡ l.initial.seat.table_id) × (l.seat.me.1 ≡ l.initial.seat.me.1) × (l.yielded ++ l.marker-iterator.rest.items ≡ l.fn.markers.items) × Apart l.yielded l.deques.items l.rows.items l.lists.items l.initial.seat.me.0 l.seat.me.0
