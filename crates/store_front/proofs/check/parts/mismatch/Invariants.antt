use Rattle.std.proofs.Common.{◌≡◌, ◌≤◌, length, take}
use Rattle.store_front.specs.Parts.{part}
use Rattle.store_front.proofs.check.parts.mismatch.Given as goal

abbrev pub invariant-loop-entry : goal.invariant-loop-entry
invariant-loop-entry l = record {
  so_far : part l.number (take l.entry-index l.log) ≡ take l.next l.list;
  within : l.next ≤ length l.list;
}
