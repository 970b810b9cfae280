use Rattle.std.proofs.Common.{◌≡◌, List, sym, ◌∙◌, subst, refl, length, ◌<◌, set, get_or, ap, arith}
use Rattle.std.proofs.lemmas.List.{set-get_or}
use Rattle.std.proofs.lemmas.List.Elements.{All-set}
use Rattle.crossbeam_deque.specs.Handles.{view}
use Rattle.steal_mark.specs.declared.shared.deques.PassView.{PassView}
use Rattle.steal_mark.specs.declared.turn.thief_pass.ThiefPass.{ThiefPass}
use Rattle.steal_mark.specs.Stealing.{IsOther, IsPlaced, pass_views, TookOne}
use Rattle.steal_mark.proofs.Stolen.{if_some, none_fact, taken_reached, stealers_kept, hands_kept, pass_views_took, other_kept, parts_kept, some_part, steal_parts}
use Rattle.steal_mark.proofs.turn.steal.steal_any.Goals as goal
use Rattle.steal_mark.proofs.turn.steal.steal_any.Goals.{then-k-number+else-is_some, else-k-number}

-- a pass on another's deque has a part
pub steal-found-requires-clause-part : goal.steal-found-requires-clause-part
steal-found-requires-clause-part c =
    some_part c.args.graph.now c.loop-k.others c.loop-k.k c.index-others-k.result (get_or c.loop-k.others c.loop-k.k c.index-others-k.result) (omega arith) c.index-others-k.is refl c.args.number (subst (IsPlaced c.args.number) (sym c.loop-k.invariant.3) c.requires.placed) c.if-k-number.true

-- a look leaves the parts
pub returns-then-is_some-clause-parts : goal.returns-then-is_some-clause-parts
returns-then-is_some-clause-parts c =
    let inside : c.loop-k.k < length c.loop-k.others = omega arith in
    parts_kept c.args.graph.now c.loop-k.others c.loop-k.k c.index-others-k.result _ inside c.index-others-k.is refl (steal_parts c.steal-found.result _ _ c.steal-found.ensures.some c.steal-found.ensures.none) ∙ c.loop-k.invariant.3

-- a look leaves the stealers
pub returns-then-is_some-clause-stealers : goal.returns-then-is_some-clause-stealers
returns-then-is_some-clause-stealers c = stealers_kept c.args.graph.now c.loop-k.others c.loop-k.k c.index-others-k.result _ (omega arith) c.index-others-k.is refl ∙ c.loop-k.invariant.1

-- one pass took the node
pub returns-then-is_some-clause-some : goal.returns-then-is_some-clause-some
returns-then-is_some-clause-some c =
    let x : ThiefPass = get_or c.loop-k.others c.loop-k.k c.index-others-k.result in
    let inside : c.loop-k.k < length c.loop-k.others = omega arith in
    let sound : IsOther c.args.graph.now x = c.loop-k.invariant.0 c.loop-k.k c.index-others-k.result inside in
    if_some _ _ c.steal-found.result (λ n t. (
      taken_reached c.args.graph.now n (view x.pass) (view c.steal-found.new.pass) sound.graph t,
      subst (λ (hs : List PassView). TookOne n hs (pass_views (set c.loop-k.others c.loop-k.k record { stealer = x.stealer; pass = c.steal-found.new.pass }))) c.loop-k.invariant.2
          (pass_views_took c.args.graph.now c.loop-k.others c.loop-k.k c.index-others-k.result record { stealer = x.stealer; pass = c.steal-found.new.pass } inside c.index-others-k.is refl n (view c.steal-found.new.pass) refl t),
    )) c.steal-found.ensures.some

-- so far nothing was found, and nothing changed
pub loop-k-preserved : goal.loop-k-preserved
loop-k-preserved c =
    let x : ThiefPass = get_or c.loop-k.others c.loop-k.k c.index-others-k.result in
    let inside : c.loop-k.k < length c.loop-k.others = omega arith in
    let sound : IsOther c.args.graph.now x = c.loop-k.invariant.0 c.loop-k.k c.index-others-k.result inside in
    elim c.if-k-number.branch [
      | then-k-number+else-is_some w ↦
          let y : ThiefPass = record { stealer = x.stealer; pass = w.steal-found.new.pass } in
          let none : view y.pass ≡ view x.pass = none_fact w.steal-found.result _ (sym w.is_some.ensures ∙ w.if-is_some.false) w.steal-found.ensures.none in
          rw w.others-is (
            All-set (IsOther c.args.graph.now) c.loop-k.others c.loop-k.k y (other_kept c.args.graph.now c.loop-k.others c.loop-k.k c.index-others-k.result y inside c.index-others-k.is refl sound w.steal-found.ensures.same none) c.loop-k.invariant.0,
            stealers_kept c.args.graph.now c.loop-k.others c.loop-k.k c.index-others-k.result y inside c.index-others-k.is refl ∙ c.loop-k.invariant.1,
            hands_kept c.args.graph.now c.loop-k.others c.loop-k.k c.index-others-k.result y inside c.index-others-k.is refl none ∙ c.loop-k.invariant.2,
            parts_kept c.args.graph.now c.loop-k.others c.loop-k.k c.index-others-k.result y inside c.index-others-k.is refl (ap (λ (h : PassView). h.parts) none) ∙ c.loop-k.invariant.3,
          )
      | else-k-number w ↦ rw (w.others-is ∙ set-get_or c.loop-k.others c.loop-k.k c.index-others-k.result) c.loop-k.invariant
    ]
