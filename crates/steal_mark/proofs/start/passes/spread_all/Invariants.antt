use Rattle.std.proofs.Common.{◌≡◌, ◌++◌}
use Rattle.steal_mark.proofs.Spreads.{SpreadsAll}
use Rattle.steal_mark.proofs.start.passes.spread_all.Given as goal

-- the deques so far are spread, and the rest is to come
abbrev pub invariant-loop-deque : goal.invariant-loop-deque
invariant-loop-deque l = (l.yielded ++ l.deque-iterator.rest.items ≡ l.fn.deques.items) × SpreadsAll l.graph l.yielded l.opened.items l.initial.rows l.rows
