use Rattle.std.proofs.Common.{length, ◌-◌, ◌≤◌, take}
use Rattle.request_line.specs.LineMembers.{AllBelow}
use Rattle.request_line.proofs.plain.place_of.Given as goal

abbrev pub invariant-names : goal.invariant-names
invariant-names l = (l.place ≤ length l.fn.texts) × AllBelow l.fn.name (take l.place l.fn.texts)

abbrev pub decreases-names : goal.decreases-names
decreases-names l = length l.fn.texts - l.place
