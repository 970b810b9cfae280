use Rattle.std.proofs.Common.{◌≡◌, ◌≤◌, ◌+◌, ◌++◌, map, take, length, vec_len, vec_capacity}
use Rattle.mark_core.proofs.target_lists.push_shifted.Given as goal

-- the ends before the place are there, and there is room for the others
abbrev pub invariant-loop-end : goal.invariant-loop-end
invariant-loop-end l =
    (l.ends.items ≡ l.fn.ends.items ++ map (λ end. l.start + end) (take l.end-index l.more))
    × (vec_len l.ends + length l.more ≤ vec_capacity l.ends + l.end-index)
