use Rattle.std.proofs.Common.{◌≡◌, ◌<◌, ◌++◌, ◌∷◌, [], get_or, length, sym, ap, ◌∙◌, subst, arith}
use Rattle.crossbeam_deque.specs.Handles.{worker_view, worker_deque, IsPassOf}
use Rattle.steal_mark.specs.Stealing.{IsOther}
use Rattle.steal_mark.specs.Closing.{Id, IsRow, ids_of}
use Rattle.steal_mark.proofs.Closed.{closes_more, parts_left, last_id, last_other}
use Rattle.steal_mark.proofs.Dealt.{merges}
use Rattle.steal_mark.proofs.finish.close.close.Goals as goal
use Rattle.steal_mark.specs.Parts.{PassRow}

-- the last pass of the row is on this deque
pub absorb-requires-clause-table : goal.absorb-requires-clause-table
absorb-requires-clause-table c =
    let a = c.loop-row.invariant in
    let row : PassRow = get_or c.loop-row.rows c.loop-row.row-index c.row-item.result in
    let inside : c.loop-row.row-index < length c.loop-row.rows = omega arith in
    let r : IsRow c.args.graph.now (ids_of c.args.deques.now ++ worker_deque c.args.deque.now ∷ []) c.loop-row.row-index row = a.ahead c.loop-row.row-index c.row-item.result (omega arith) inside in
    let o : IsOther c.args.graph.now c.in-Some.other = last_other c.args.graph.now (ids_of c.args.deques.now) (worker_deque c.args.deque.now) c.loop-row.row-index row c.pop.new.self c.in-Some.other r c.in-Some.ensures.items in
    let i = last_id c.args.graph.now (ids_of c.args.deques.now) (worker_deque c.args.deque.now) c.loop-row.row-index row c.pop.new.self c.in-Some.other r c.in-Some.ensures.items in
    subst (λ (x : Id). IsPassOf x c.in-Some.other.pass) (i ∙ sym a.same.0) o.pass

-- joining the passes keeps the rule
pub absorb-requires-clause-rule : goal.absorb-requires-clause-rule
absorb-requires-clause-rule c = merges _ (worker_view c.loop-row.deque) _ _ (parts_left _ _ _ _ _ _ _ c.loop-row.invariant c.requires.part)

-- one row more is closed
pub loop-row-preserved : goal.loop-row-preserved
loop-row-preserved c =
    let row : PassRow = get_or c.loop-row.rows c.loop-row.row-index c.row-item.result in
    let inside : c.loop-row.row-index < length c.loop-row.rows = omega arith in
    let at : row ≡ get_or c.loop-row.rows c.loop-row.row-index row = sym (ap (λ d. get_or c.loop-row.rows c.loop-row.row-index d) (sym c.row-item.is)) in
    closes_more c.args.graph.now (ids_of c.args.deques.now) c.loop-row.row-index c.args.deque.now c.loop-row.deque c.absorb.new.self c.args.rows.now c.loop-row.rows row c.pop.new.self c.in-Some.other c.loop-row.invariant inside at c.in-Some.ensures.items
    (c.absorb.ensures.same.0.0, c.absorb.ensures.same.0.1) c.absorb.ensures.rule
