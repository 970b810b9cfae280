use Rattle.std.specs.Prelude.{Option, Some, None, IfNone}
use Rattle.std.proofs.Common.{◌≡◌, take, drop, length, ◌++◌, sym, ap, ◌∙◌, arith}
use Rattle.std.proofs.lemmas.List.{with_items_is}
use Rattle.steal_mark.specs.Stealing.{pass_views}
use Rattle.steal_mark.proofs.Stolen.{none_fact}
use Rattle.steal_mark.proofs.turn.marker.Marker.find.Goals as goal

-- a weaker fact of finding nothing
none_weaker : {X : Type 0} (o : Option X) (P Q : Type 0) → (P → Q) → IfNone o P → IfNone o Q
none_weaker None P Q f h = f h
none_weaker (Some x) P Q f h = tt

-- neither its own deque nor another gave a node
pub returns-clause-none : goal.returns-clause-none
returns-clause-none c =
    let t = none_fact c.take-own.result _ (sym c.is_some.ensures ∙ c.if-is_some.false) c.take-own.ensures.none in
    let is : take c.args.self.now.others.len (c.steal_any.new.others ++ drop (length c.steal_any.new.others) c.args.self.now.others.items) ≡ c.steal_any.new.others = with_items_is c.args.self.now.others c.steal_any.new.others (omega arith) in
    none_weaker c.steal_any.result _ _ (λ h. record { own = t.0; passes = ap pass_views is ∙ h ∙ ap pass_views c.as_mut_slice.ensures.value; empty = t.1 }) c.steal_any.ensures.none
