use Rattle.std.proofs.Common.{◌≡◌, ◌+◌}
use Rattle.store_front.specs.Finish.{cleared, told_first}
use Rattle.store_front.proofs.history.clear.clear_all.Given as goal

-- those before the place are emptied, and counted out of the book
abbrev pub invariant-loop-i : goal.invariant-loop-i
invariant-loop-i g l = record {
  sessions : l.sessions ≡ cleared l.i l.initial.sessions;
  total : l.book.total + told_first l.i l.initial.sessions ≡ l.initial.book.total;
}
