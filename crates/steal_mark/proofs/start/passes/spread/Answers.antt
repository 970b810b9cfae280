use Rattle.std.proofs.Common.{◌≡◌, ◌<◌, get_or, length, sym, ap, arith}
use Rattle.std.specs.Prelude.{nat_eq}
use Rattle.std.proofs.lemmas.List.{length-map}
use Rattle.crossbeam_deque.specs.Handles.{worker_deque}
use Rattle.steal_mark.specs.Closing.{ids_of}
use Rattle.steal_mark.specs.Starting.{part_of}
use Rattle.steal_mark.proofs.Spreads.{opens_more, parts_left, part_own, part_other, part_small}
use Rattle.steal_mark.proofs.start.passes.spread.Goals as goal
use Rattle.steal_mark.specs.Parts.{Deque, PassRow}

-- one row more has its pass
pub loop-k-preserved : goal.loop-k-preserved
loop-k-preserved c =
    let i = c.loop-k.invariant in
    let row : PassRow = get_or c.loop-k.rows c.loop-k.k c.index-rows-k.result in
    let inside : c.loop-k.k < length c.loop-k.rows = omega arith in
    let at : row ≡ get_or c.loop-k.rows c.loop-k.k row = sym (ap (λ d. get_or c.loop-k.rows c.loop-k.k d) (sym c.index-rows-k.is)) in
    let l = length-map c.args.deques.now (λ (d : Deque). worker_deque d) in
    let left = parts_left _ _ _ _ _ _ _ i c.requires.deque.parts (let a = i.long in let b = c.requires.few in omega arith) in
    opens_more c.args.graph.now (ids_of c.args.deques.now) c.loop-k.k (part_of (nat_eq c.loop-k.k (length c.args.deques.now))) c.args.deque.now c.loop-k.deque c.pass_on.new.deque c.args.rows.now c.loop-k.rows row c.push.new.self c.in_ok-other.other i c.requires.deque.graph
    (λ e. part_own c.loop-k.k (length c.args.deques.now) (omega arith)) (λ ne. part_other c.loop-k.k (length c.args.deques.now) (λ e. ne (omega arith))) inside at c.in_ok-push.ensures.items (part_small c.loop-k.k (length c.args.deques.now) _ left) c.in_ok-other.ensures.cut c.pass_on.ensures.same
