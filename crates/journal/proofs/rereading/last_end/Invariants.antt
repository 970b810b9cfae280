use Rattle.std.proofs.Common.{◌≤◌, length, drop}
use Rattle.journal.proofs.TextLines.{HasNoFeed}
use Rattle.journal.proofs.rereading.last_end.Given as goal

abbrev pub invariant-loop-at : goal.invariant-loop-at
invariant-loop-at l =
    record { within : l.at ≤ length l.block; none : HasNoFeed (drop l.at l.block) }

abbrev pub decreases-loop-at : goal.decreases-loop-at
decreases-loop-at l = l.at
