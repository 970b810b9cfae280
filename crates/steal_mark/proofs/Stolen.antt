-- A look at another's deque.
use Rattle.std.proofs.Common.{◌≡◌, ◌≢◌, ℕ, ◌<◌, List, [], ◌∷◌, length, get_or, set, map, false, true≢false, sym, ap, ◌∙◌, subst, arith}
use Rattle.std.specs.Prelude.{All, Option, Some, None, IfSome, IfNone, is_some, Result, Ok, Err, IfOk}
use Rattle.std.proofs.lemmas.List.{map-set, length-map, get_or-map}
use Rattle.std.proofs.lemmas.List.Elements.{All-head}
use Rattle.std.proofs.Math.Seq.{map-set_same}
use mathlib.Core.Option.{some}
use lib.ListN.{get_elem?}
use Rattle.atomic_table.proofs.Lists.{at_map, at_index}
use Rattle.crossbeam_deque.specs.Handles.{view, IsPassOf, SamePass, stealer_deque, stealer_flavor}
use Rattle.mark_core.specs.declared.graph.Graph.{Graph}
use Rattle.mark_core.specs.Reach.{Reached}
use Rattle.steal_mark.specs.declared.shared.deques.PassView.{PassView}
use Rattle.steal_mark.specs.declared.turn.thief_pass.ThiefPass.{ThiefPass}
use Rattle.steal_mark.specs.Dealing.{Taken, ReachedIn}
use Rattle.steal_mark.specs.Stealing.{IsOther, IsPlaced, parts_of, pass_view_of, pass_views, TookOne}

-- a weaker fact of what was found
pub if_some : {X : Type 0} (P Q : X → Type 0) (o : Option X) → ((x : X) → P x → Q x) → IfSome o P → IfSome o Q
if_some P Q None f h = tt
if_some P Q (Some x) f h = f x h

-- where nothing was found
pub none_fact : {X : Type 0} (o : Option X) (P : Type 0) → is_some o ≡ false → IfNone o P → P
none_fact None P e h = h
none_fact (Some x) P e h = absurd (true≢false e)

-- what Taken says of one node
pub taken_reached : (g : Graph) (n : ℕ) (v w : PassView) → v.graph ≡ Some g → Taken v (n ∷ []) w → Reached g n
taken_reached g n v w is t = let all : All (ReachedIn (Some g)) (n ∷ []) = subst (λ o. All (ReachedIn o) (n ∷ [])) is t.1 in All-head (ReachedIn (Some g)) n [] all

module _ (g : Graph) (xs : List ThiefPass) (k : ℕ) (r y : ThiefPass) (inside : k < length xs) (read : r ≡ get_or xs k r) (st : y.stealer ≡ (get_or xs k r).stealer) where
  -- the pass that was lent
  abbrev x : ThiefPass
  x = get_or xs k r

  -- it stands at k
  at_k : get_elem? xs k ≡ some x
  at_k = at_index xs k x inside (sym (ap (λ d. get_or xs k d) (sym read)))

  -- a look leaves the stealers
  pub stealers_kept : map (λ (o : ThiefPass). o.stealer) (set xs k y) ≡ map (λ (o : ThiefPass). o.stealer) xs
  stealers_kept = map-set_same (λ (o : ThiefPass). o.stealer) xs k y r st

  -- a look that found nothing leaves the hands
  pub hands_kept : view y.pass ≡ view x.pass → pass_views (set xs k y) ≡ pass_views xs
  hands_kept same = map-set_same pass_view_of xs k y r same

  -- a look leaves the parts
  pub parts_kept : (view y.pass).parts ≡ (view x.pass).parts → parts_of (set xs k y) ≡ parts_of xs
  parts_kept same = map-set_same (λ (o : ThiefPass). (pass_view_of o).parts) xs k y r same

  -- a pass on another's deque has a part
  pub some_part : (number : ℕ) → IsPlaced number (parts_of xs) → k ≢ number → 0 < (view x.pass).parts
  some_part number placed ne =
      let many = length-map xs (λ (o : ThiefPass). (pass_view_of o).parts) in
      let a = (placed k (omega arith)).1 ne in
      let b = get_or-map (λ (o : ThiefPass). (pass_view_of o).parts) xs k r 0 inside in
      omega arith

  -- a look that found a node changes one hand
  pub pass_views_took : (n : ℕ) (w : PassView) → view y.pass ≡ w → Taken (view x.pass) (n ∷ []) w → TookOne n (pass_views xs) (pass_views (set xs k y))
  pass_views_took n w is t = (k, pass_view_of x, at_map pass_view_of xs k x at_k, map-set pass_view_of xs k y ∙ ap (λ h. set (pass_views xs) k h) (is ∙ t.0))

  -- a pass that found nothing stays sound
  pub other_kept : IsOther g x → SamePass x.pass y.pass → view y.pass ≡ view x.pass → IsOther g y
  other_kept o same v =
      record {
        pass = subst (λ s. IsPassOf (stealer_deque s) y.pass) (sym st) (same.0 ∙ o.pass.0, same.1 ∙ o.pass.1, same.3, same.4);
        fifo = ap stealer_flavor st ∙ o.fifo;
        graph = ap (λ (h : PassView). h.graph) v ∙ o.graph;
        unpushed = ap (λ (h : PassView). h.pushed) v ∙ o.unpushed;
      }

-- a look at a deque leaves a pass its parts
pub steal_parts : (o : Option ℕ) (v w : PassView) → IfSome o (λ n. Taken v (n ∷ []) w) → IfNone o (w ≡ v) → w.parts ≡ v.parts
steal_parts None v w s n = ap (λ (h : PassView). h.parts) n
steal_parts (Some x) v w s n = ap (λ (h : PassView). h.parts) s.0

-- a weaker fact of a success
pub ok_weaker : {X E : Type 0} (P Q : X → Type 0) (r : Result X E) → ((x : X) → P x → Q x) → IfOk r P → IfOk r Q
ok_weaker P Q (Ok x) f h = f x h
ok_weaker P Q (Err e) f h = tt
