use Rattle.std.proofs.Common.{◌∙◌, ◌<◌, ℕ, List, Option, length, get_or, sym, ap, subst, take, arith}
use Rattle.std.specs.Prelude.{All}
use Rattle.std.proofs.lemmas.List.{take_more}
use Rattle.mark_core.specs.Seeing.{Seen}
use Rattle.mark_core.specs.Depths.{KeepsDepths}
use Rattle.mark_core.specs.Seeing.{see, see_all}
use Rattle.mark_core.proofs.Seeings.{see_all-push}
use Rattle.mark_core.proofs.DepthsSeen.{tells_more}
use Rattle.mark_core.proofs.depth.see_all.Goals as goal

-- one more node is seen, after those before it
pub loop-node-preserved : goal.loop-node-preserved
loop-node-preserved c =
    let ns : List ℕ = c.args.nodes.now in
    let k : ℕ = c.loop-node.node-index in
    let depth : ℕ = c.args.depth in
    let node : ℕ = get_or ns k 0 in
    let old : List (Option ℕ) = c.loop-node.depths.items in
    let queue : List ℕ = c.see.new.queue.items in
    let new : List (Option ℕ) = c.see.new.depths.items in
    let all : All (λ n. n < length c.args.depths.now.items) ns = c.requires in
    let inside : node < length old =
    subst (λ l. node < l) (sym c.loop-node.invariant.count) (all k 0 (omega arith)) in
    let more = take_more ns k 0 c.loop-node-test.true in
    record {
      count = c.in_ok-see.ensures.count ∙ c.loop-node.invariant.count;
      sees = λ seen before t.
          let it : Seen = record { node = node; before = before; depth = depth } in
          let now : List Seen = see_all before depth seen (take k ns) in
          let tells : KeepsDepths (see now it) queue new =
          subst (λ q. KeepsDepths (see now it) q new) (sym c.in_ok-see.ensures.queue)
          (tells_more now c.loop-node.queue.items old new it inside c.in_ok-see.ensures.count
          (c.loop-node.invariant.sees seen before t) c.in_ok-see.ensures.each) in
          subst (λ (l : List Seen). KeepsDepths l queue new)
          (sym (ap (see_all before depth seen) more
          ∙ see_all-push before depth seen (take k ns) node)) tells;
    }
