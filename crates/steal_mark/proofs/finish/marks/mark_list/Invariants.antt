use Rattle.std.proofs.Common.{◌≡◌, ◌<◌, ◌↔◌, ◌⊎◌, ℕ, take, length}
use Rattle.mark_core.specs.Bits.{bit_of, times}
use Rattle.steal_mark.proofs.finish.marks.mark_list.Given as goal

-- the nodes so far are marked
abbrev pub invariant-loop-node : goal.invariant-loop-node
invariant-loop-node l = (length l.marks ≡ length l.initial.marks) × ((n : ℕ) → (bit_of l.marks n ≡ 1) ↔ ((bit_of l.initial.marks n ≡ 1) ⊎ (0 < times n (take l.node-index l.list))))
