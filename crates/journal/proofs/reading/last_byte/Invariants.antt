use Rattle.std.proofs.Common.{◌≡◌, ◌≤◌, ◌-◌, length, drop, replicate}
use Rattle.journal.proofs.reading.last_byte.Given as goal

abbrev pub invariant-loop-at : goal.invariant-loop-at
invariant-loop-at l =
    record {
      within : l.at ≤ length l.text;
      zeros : drop l.at l.text
          ≡ replicate (length l.text - l.at) 0;
    }

abbrev pub decreases-loop-at : goal.decreases-loop-at
decreases-loop-at l = l.at
