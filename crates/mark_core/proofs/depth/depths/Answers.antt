use Rattle.std.proofs.Common.{◌≡◌, ◌∙◌, ◌+◌, ◌<◌, ◌≤◌, ℕ, List, [], Option, length, sym, subst, arith, None}
use Rattle.mark_core.specs.declared.graph.Graph.{Graph}
use Rattle.mark_core.specs.Depths.{KeepsDepths}
use Rattle.mark_core.specs.Seeing.{see_all}
use Rattle.mark_core.proofs.DepthSearches.{Searched, seen_at, started, few_queued, node_below, depth_is, depth_low, goes_on, depths_are}
use Rattle.mark_core.proofs.depth.depths.Goals as goal

-- the starts are seen, those that cost nothing first
pub loop-next-init : goal.loop-next-init
loop-next-init c =
    let own : List ℕ = c.args.own.now in
    let held : List ℕ = c.args.held.now in
    let none : KeepsDepths [] c.in_ok-queue.queue.items c.in_ok-depths.depths.items = (
      c.in_ok-queue.ensures.items,
      λ n h. c.in_ok-depths.ensures.none n (subst (λ l. n < l) c.in_ok-depths.ensures.count h),
    ) in
    record {
      count = c.in_ok-see_all-2.ensures.count ∙ c.in_ok-see_all.ensures.count
          ∙ c.in_ok-depths.ensures.count ∙ c.len.ensures.count;
      searched = started c.args.graph.now own held c.see_all-2.new.queue.items
          c.see_all-2.new.depths.items
          (c.in_ok-see_all-2.ensures.sees (see_all None 0 [] own) None
          (c.in_ok-see_all.ensures.sees [] None none));
    }

-- what was seen is a node of the graph
pub depth_at-depth-requires : goal.depth_at-depth-requires
depth_at-depth-requires c =
    let n : ℕ = c.index-node.result.now in
    let inside : c.loop-next.next < length c.loop-next.queue.items = omega arith in
    subst (λ l. n < l) (sym c.loop-next.invariant.count)
    (node_below c.args.graph.now c.args.own.now c.args.held.now c.loop-next.queue.items
    c.loop-next.depths.items c.loop-next.next c.loop-next.invariant.searched
    inside n c.index-node.ensures
    c.requires.range c.requires.own c.requires.held)

-- no more nodes are seen than there are, so their number and their depth fit in 32 bits
pub overflow_add-depth : goal.overflow_add-depth
overflow_add-depth c =
    let g : Graph = c.args.graph.now in
    let own : List ℕ = c.args.own.now in
    let held : List ℕ = c.args.held.now in
    let queue : List ℕ = c.loop-next.queue.items in
    let depths : List (Option ℕ) = c.loop-next.depths.items in
    let next : ℕ = c.loop-next.next in
    let s : Searched g own held queue depths next = c.loop-next.invariant.searched in
    let n : ℕ = c.index-node.result.now in
    let inside : next < length queue = omega arith in
    let below = node_below g own held queue depths next s
    inside n c.index-node.ensures c.requires.range c.requires.own c.requires.held in
    let is = depth_is g own held queue depths next s
    inside n c.index-node.ensures (subst (λ l. n < l) (sym c.loop-next.invariant.count) below) in
    let deep : c.depth_at-depth.result ≡ (seen_at s.seen next).depth =
    c.depth_at-depth.ensures (seen_at s.seen next).depth is in
    let low = depth_low g own held queue depths next s inside n c.index-node.ensures in
    let all = few_queued g own held queue depths next s
    c.requires.range c.requires.own c.requires.held in
    let few = c.requires.few in
    omega arith

pub overflow_add-next : goal.overflow_add-next
overflow_add-next c =
    let all = few_queued c.args.graph.now c.args.own.now c.args.held.now c.loop-next.queue.items
    c.loop-next.depths.items c.loop-next.next c.loop-next.invariant.searched
    c.requires.range c.requires.own c.requires.held in
    let few = c.requires.few in
    omega arith

-- no more nodes are seen than there are, and one more of them is done
pub loop-next-smaller : goal.loop-next-smaller
loop-next-smaller c =
    let all = few_queued c.args.graph.now c.args.own.now c.args.held.now c.loop-next.queue.items
    c.loop-next.depths.items c.loop-next.next c.loop-next.invariant.searched
    c.requires.range c.requires.own c.requires.held in
    omega arith

-- the targets of the node at the place are seen
pub loop-next-preserved : goal.loop-next-preserved
loop-next-preserved c =
    let g : Graph = c.args.graph.now in
    let own : List ℕ = c.args.own.now in
    let held : List ℕ = c.args.held.now in
    let queue : List ℕ = c.loop-next.queue.items in
    let depths : List (Option ℕ) = c.loop-next.depths.items in
    let next : ℕ = c.loop-next.next in
    let s : Searched g own held queue depths next = c.loop-next.invariant.searched in
    let n : ℕ = c.index-node.result.now in
    let depth : ℕ = c.depth_at-depth.result in
    let queue' : List ℕ = c.see_all-in-loop-next.new.queue.items in
    let depths' : List (Option ℕ) = c.see_all-in-loop-next.new.depths.items in
    let inside : next < length queue = omega arith in
    let below = node_below g own held queue depths next s
    inside n c.index-node.ensures c.requires.range c.requires.own c.requires.held in
    let is = depth_is g own held queue depths next s
    inside n c.index-node.ensures (subst (λ l. n < l) (sym c.loop-next.invariant.count) below) in
    record {
      count = c.in_ok-see_all-3.ensures.count ∙ c.loop-next.invariant.count;
      searched = goes_on g own held queue depths next s inside n c.index-node.ensures depth
          (c.depth_at-depth.ensures (seen_at s.seen next).depth is) queue' depths'
          (λ seen before t.
          subst (λ (ts : List ℕ). KeepsDepths (see_all before (depth + 1) seen ts) queue' depths') c.targets.ensures
          (c.in_ok-see_all-3.ensures.sees seen before t));
    }

-- all that was seen is done
pub returns-clause-nearest : goal.returns-clause-nearest
returns-clause-nearest c =
    let over : length c.loop-next.queue.items ≤ c.loop-next.next = omega arith in
    λ n h. depths_are c.args.graph.now c.args.own.now c.args.held.now c.loop-next.queue.items
    c.loop-next.depths.items c.loop-next.next c.loop-next.invariant.searched over n
    (subst (λ l. n < l) (sym c.loop-next.invariant.count) h)
