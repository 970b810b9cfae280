use Rattle.std.proofs.Common.{◌≡◌, ◌<◌, ◌/◌, ◌↔◌, ℕ, take, length}
use Rattle.mark_core.specs.Bits.{bit_of}
use Rattle.mark_core.specs.Reach.{node_count}
use Rattle.steal_mark.specs.Closing.{listing}
use Rattle.steal_mark.specs.Listing.{listed}
use Rattle.steal_mark.proofs.finish.marks.marks_of.Given as goal

-- the lists so far are marked
abbrev pub invariant-loop-list : goal.invariant-loop-list
invariant-loop-list l = ((n : ℕ) → n < node_count l.graph → n / 64 < length l.marks) × ((n : ℕ) → (bit_of l.marks n ≡ 1) ↔ (0 < listed n (listing (take l.list-index l.lists))))
