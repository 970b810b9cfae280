use Rattle.std.proofs.Common.{◌≡◌, ◌≤◌, ◌-◌, length, drop}
use Rattle.journal.specs.Head.{is_blank, is_blank_from}
use Rattle.journal.proofs.journal_file.head.is_blank.Given as goal

abbrev pub invariant-looking : goal.invariant-looking
invariant-looking l = record {
  within : l.at ≤ length l.file;
  rest : is_blank l.file ≡ is_blank_from l.at (drop l.at l.file);
}

abbrev pub decreases-looking : goal.decreases-looking
decreases-looking l = length l.file - l.at
