use Rattle.std.proofs.Common.{◌≡◌, ◌≤◌, length, take}
use Rattle.request_line.proofs.LineMembers.{found_in}
use Rattle.request_line.proofs.members.member.Given as goal

abbrev pub invariant-loop-left : goal.invariant-loop-left
invariant-loop-left l =
    (l.left ≤ length l.members)
    × (found_in l.fn.name (take l.left l.members) ≡ found_in l.fn.name l.members)

abbrev pub decreases-loop-left : goal.decreases-loop-left
decreases-loop-left l = l.left
