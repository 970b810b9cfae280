use Rattle.std.proofs.Common.{◌++◌, ◌∷◌, [], List, append_assoc, sym, ap, ◌∙◌, subst}
use Rattle.crossbeam_deque.specs.Handles.{worker_deque}
use Rattle.steal_mark.specs.Closing.{ids_of}
use Rattle.steal_mark.specs.Starting.{AreNewRows}
use Rattle.steal_mark.proofs.Spreads.{SpreadsAll, spreads_more}
use Rattle.steal_mark.proofs.start.passes.spread_all.Goals as goal
use Rattle.steal_mark.specs.Parts.{Deque}

-- the rows have a pass on each deque so far
pub spread-requires-clause-rows : goal.spread-requires-clause-rows
spread-requires-clause-rows c = subst (λ (l : List Deque). AreNewRows c.args.graph.now (ids_of l) c.loop-deque.rows) (sym c.as_slice.ensures.value) c.loop-deque.invariant.1.rows

-- one deque more is spread
pub loop-deque-preserved : goal.loop-deque-preserved
loop-deque-preserved c =
    let i = c.loop-deque.invariant in
    let rows : AreNewRows c.args.graph.now (ids_of c.loop-deque.opened.items ++ worker_deque c.in-Some.deque ∷ []) c.spread.new.rows
    = subst (λ (l : List Deque). AreNewRows c.args.graph.now (ids_of l ++ worker_deque c.in-Some.deque ∷ []) c.spread.new.rows) c.as_slice.ensures.value c.in_ok-spread.ensures.rows in (
      append_assoc c.loop-deque.yielded (c.in-Some.deque ∷ []) c.next.new.self.rest.items ∙ ap (λ x. c.loop-deque.yielded ++ x) (sym c.in-Some.ensures.steps.0) ∙ i.0,
      subst (λ (l : List Deque). SpreadsAll c.args.graph.now (c.loop-deque.yielded ++ c.in-Some.deque ∷ []) l c.args.rows.now c.spread.new.rows) (sym c.in_ok-push.ensures.items)
          (spreads_more _ _ _ c.in-Some.deque c.spread.new.deque _ _ _ i.1 c.spread.ensures.same rows c.spread.ensures.many c.in_ok-spread.ensures.spread c.in_ok-spread.ensures.pushed),
    )
