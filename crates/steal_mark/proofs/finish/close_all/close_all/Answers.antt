use Rattle.std.proofs.Common.{◌≡◌, ◌++◌, ◌∷◌, [], List, length, get_or, set, sym, ap, ◌∙◌, subst, arith}
use Rattle.crossbeam_deque.specs.Handles.{worker_view}
use Rattle.steal_mark.specs.Closing.{Balanced, AreRows, ids_of}
use Rattle.steal_mark.proofs.Balances.{last_backed, balanced_after}
use Rattle.steal_mark.specs.Draining.{DrainsAll}
use Rattle.steal_mark.proofs.finish.close_all.close_all.Goals as goal
use Rattle.steal_mark.specs.Parts.{Deque, NodeList}

-- what was pushed to the last deque was claimed
pub drain-requires-clause-backed : goal.drain-requires-clause-backed
drain-requires-clause-backed c =
    let b : Balanced c.args.graph.now (c.pop.new.self.items ++ c.in-Some.deque ∷ []) c.loop-deque.rows c.loop-deque.lists c.loop-deque.seat.me.0 =
    subst (λ (l : List Deque). Balanced c.args.graph.now l c.loop-deque.rows c.loop-deque.lists c.loop-deque.seat.me.0) c.in-Some.ensures.items c.loop-deque.invariant.2 in
    λ n. let a = last_backed c.args.graph.now c.pop.new.self.items c.in-Some.deque c.loop-deque.rows c.close.new.rows c.loop-deque.lists c.loop-deque.seat.me.0 c.loop-deque.seat.me.0 b n in let e = c.close.ensures.pushed n in omega arith

-- the last deque is closed and drained, and the equation stays
pub loop-deque-preserved : goal.loop-deque-preserved
loop-deque-preserved c =
    let b : Balanced c.args.graph.now (c.pop.new.self.items ++ c.in-Some.deque ∷ []) c.loop-deque.rows c.loop-deque.lists c.loop-deque.seat.me.0 =
    subst (λ (l : List Deque). Balanced c.args.graph.now l c.loop-deque.rows c.loop-deque.lists c.loop-deque.seat.me.0) c.in-Some.ensures.items c.loop-deque.invariant.2 in
    let ds : List Deque = c.pop.new.self.items in
    let k : c.len.result ≡ length ds = omega arith in
    let list : NodeList = get_or c.loop-deque.lists c.len.result c.index-lists-len.result in
    let at : list ≡ get_or c.loop-deque.lists c.len.result list = sym (ap (λ d. get_or c.loop-deque.lists c.len.result d) (sym c.index-lists-len.is)) in
    let at' : list ≡ get_or c.loop-deque.lists (length ds) list = at ∙ ap (λ i. get_or c.loop-deque.lists i list) k in
    let passes : AreRows c.args.graph.now (ids_of ds) c.close.new.rows = subst (λ (l : List Deque). AreRows c.args.graph.now (ids_of l) c.close.new.rows) c.as_slice.ensures.value c.close.ensures.rows.0 in
    let dr : DrainsAll c.args.graph.now c.loop-deque.seat.me.0 c.drain.new.seat.me.0 (worker_view c.close.new.deque) (worker_view c.drain.new.deque) list.items c.drain.new.list.items = c.in_ok-drain.ensures.drains in
    let after : Balanced c.args.graph.now ds c.close.new.rows (set c.loop-deque.lists (length ds) c.drain.new.list) c.drain.new.seat.me.0 =
    balanced_after c.args.graph.now ds c.in-Some.deque c.loop-deque.rows c.close.new.rows c.loop-deque.lists c.loop-deque.seat.me.0 c.drain.new.seat.me.0 b
    (worker_view c.close.new.deque) (worker_view c.drain.new.deque) list c.drain.new.list at' c.close.auto.rows passes c.close.ensures.pushed c.close.ensures.taken dr in (
      c.in_ok-drain.ensures.same.0 ∙ c.loop-deque.invariant.0,
      c.in_ok-drain.ensures.same.1 ∙ c.loop-deque.invariant.1,
      subst (λ i. Balanced c.args.graph.now ds c.close.new.rows (set c.loop-deque.lists i c.drain.new.list) c.drain.new.seat.me.0) (sym k) after,
    )
