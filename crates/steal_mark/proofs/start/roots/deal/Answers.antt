use Rattle.steal_mark.proofs.Deals.{deals_seen, deals_put}
use Rattle.std.proofs.Common.{◌≡◌, ◌+◌, ◌++◌, ◌∷◌, [], ℕ, take, get_or, ◌∙◌, arith}
use Rattle.std.proofs.Math.Nat.{mod-lt}
use Rattle.std.proofs.lemmas.List.{take_more, length-set}
use Rattle.steal_mark.proofs.start.roots.deal.Goals.{then-look+in_ok-put, else-look}
use Rattle.steal_mark.proofs.start.roots.deal.Goals as goal

-- a root that was claimed before is seen alone; a new one is claimed and pushed
-- to the deque whose turn it is
pub loop-root-preserved : goal.loop-root-preserved
loop-root-preserved c =
    let i = c.loop-root.invariant in
    let n : ℕ = get_or c.args.roots.now c.loop-root.root-index 0 in
    let table = c.look.ensures.same.0 ∙ i.0 in let light = c.look.ensures.same.1 ∙ i.1 in
    let more : take (c.loop-root.root-index + 1) c.args.roots.now ≡ take c.loop-root.root-index c.args.roots.now ++ n ∷ [] = take_more c.args.roots.now c.loop-root.root-index 0 (omega arith) in
    elim c.if-look.branch [
      | then-look+in_ok-put w ↦
          let long = length-set c.loop-root.deques c.loop-root.next w.put.new.deque in (
            table,
            light,
            (rw w.next-is (rw w.deques-is (mod-lt (c.loop-root.next + 1) (let a = i.2 in omega arith)))),
            rw w.deques-is (rw more (deals_put _ _ n _ _ _ _ _ i.3 c.loop-root.next w.index-deques-next.result w.put.new.deque w.if-look.ensures.looked i.2 w.put.ensures.same w.in_ok-put.ensures.ok)),
          )
      | else-look w ↦ (table, light, (rw w.next-is (rw w.deques-is i.2)), rw w.deques-is (rw more (deals_seen _ _ n _ _ _ _ _ i.3 w.if-look.ensures.looked)))
    ]
