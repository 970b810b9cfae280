use Rattle.std.proofs.Common.{◌≡◌, ◌≤◌, ◌+◌, ◌++◌, take, length, vec_len, vec_capacity}
use Rattle.mark_core.proofs.target_lists.push_each.Given as goal

-- the numbers before the place are there, and there is room for the others
abbrev pub invariant-loop-number : goal.invariant-loop-number
invariant-loop-number l =
    (l.numbers.items ≡ l.fn.numbers.items ++ take l.number-index l.more)
    × (vec_len l.numbers + length l.more ≤ vec_capacity l.numbers + l.number-index)
