use Rattle.std.proofs.Common.{◌≡◌, ◌≤◌, ◌+◌, ◌-◌, ◌*◌, drop}
use Rattle.journal.specs.Head.{pairs}
use Rattle.journal.proofs.journal_file.head.count_pairs.Given as goal

abbrev pub invariant-counting : goal.invariant-counting
invariant-counting l = record {
  bound : l.steps ≤ 2037;
  counts : pairs l.marks ≡ l.steps + pairs (drop (2 * l.steps) l.marks);
}

abbrev pub decreases-counting : goal.decreases-counting
decreases-counting l = 2037 - l.steps
