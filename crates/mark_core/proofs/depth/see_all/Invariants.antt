use Rattle.std.proofs.Common.{◌≡◌, ℕ, List, Option, take, length}
use Rattle.mark_core.specs.Seeing.{Seen}
use Rattle.mark_core.specs.Seeing.{see_all}
use Rattle.mark_core.specs.Depths.{KeepsDepths}
use Rattle.mark_core.proofs.depth.see_all.Given as goal

-- the nodes before the place were seen
abbrev pub invariant-loop-node : goal.invariant-loop-node
invariant-loop-node l = record {
  count : length l.depths.items ≡ length l.initial.depths.items;
  sees : (seen : List Seen) (before : Option ℕ)
      → KeepsDepths seen l.initial.queue.items l.initial.depths.items
      → KeepsDepths (see_all before l.depth seen (take l.node-index l.nodes)) l.queue.items
      l.depths.items;
}
