use Rattle.std.proofs.Common.{◌≡◌, ◌∙◌, ◌+◌, ◌<◌, ℕ, List, length, get_or, sym, ap, subst, arith}
use Rattle.std.proofs.lemmas.Grind.{get_or_default_zero}
use Rattle.std.specs.Prelude.{All}
use Rattle.mark_core.specs.declared.graph.Graph.{Graph}
use Rattle.mark_core.specs.Reach.{targets, node_count}
use Rattle.mark_core.specs.Claims.{claim_all}
use Rattle.mark_core.proofs.BitLemmas.{HasRoom-same}
use Rattle.mark_core.proofs.Walks.{targets_in_range}
use Rattle.mark_core.proofs.Explores.{Explores, begins, goes, bounded, ends}
use Rattle.mark_core.proofs.plain.mark_plain.Goals as goal

-- the roots are claimed, and nothing is scanned
pub loop-next-init : goal.loop-next-init
loop-next-init c = record {
  explores = begins c.args.graph.now c.add_all.new.self.order.items
      (cc (c.in_ok-add_all.ensures.claims, c.in_ok-found.ensures.none, c.deref.ensures.value));
  room = λ n h.
      let w = c.in_ok-found.ensures.room n (omega arith) in
      let r = c.in_ok-add_all.ensures.room in
      omega arith;
}

-- each target is a node, and each node has room
pub add_all-requires-in-loop-next : goal.add_all-requires-in-loop-next
add_all-requires-in-loop-next c =
    let g : Graph = c.args.graph.now in
    let all : All (λ b. b < node_count g) c.targets.result.now =
    subst (All (λ b. b < node_count g)) (sym c.targets.ensures)
    (targets_in_range g c.index-node.result.now c.requires) in
    λ k d h. c.loop-next.invariant.room (get_or c.targets.result.now k d) (all k d h)

-- no more nodes are found than there are, and one more of them is scanned
pub loop-next-smaller : goal.loop-next-smaller
loop-next-smaller c =
    let f = c.loop-next.found in
    let b =
    bounded c.args.graph.now f.marks f.order.items c.loop-next.next f.same
    c.loop-next.invariant.explores c.requires in
    omega arith

-- the targets of the node at the place are claimed
pub loop-next-preserved : goal.loop-next-preserved
loop-next-preserved c =
    let g : Graph = c.args.graph.now in
    let order : List ℕ = c.loop-next.found.order.items in
    let place : ℕ = c.loop-next.next in
    let inside : place < length order = omega arith in
    let node : c.index-node.result.now ≡ get_or order place 0 =
    c.index-node.ensures ∙ get_or_default_zero order place c.index-node.result.now inside in
    let new : List ℕ = c.add_all-in-loop-next.new.self.order.items in
    let claims : new ≡ claim_all order (targets g (get_or order place 0)) =
    c.in_ok-add_all-2.ensures.claims
    ∙ ap (claim_all order) (c.targets.ensures ∙ ap (targets g) node) in
    record {
      explores = subst (λ l. Explores g l (place + 1)) (sym claims)
          (goes g order place inside c.loop-next.invariant.explores);
      room = HasRoom-same (node_count g) c.loop-next.found.marks c.add_all-in-loop-next.new.self.marks
          c.in_ok-add_all-2.ensures.room c.loop-next.invariant.room;
    }

-- all that was found was scanned
pub returns-clause-marks : goal.returns-clause-marks
returns-clause-marks c =
    let f = c.loop-next.found in
    ends c.args.graph.now f.marks f.order.items c.loop-next.next f.same
    c.loop-next.invariant.explores (omega arith)
