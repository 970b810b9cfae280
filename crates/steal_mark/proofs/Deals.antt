-- The roots are dealt to the deques.
use Rattle.std.proofs.Common.{◌≡◌, ℕ, ◌<◌, List, [], ◌∷◌, ◌++◌, length, get_or, set, refl, ap, ◌∙◌, append_assoc, arith}
use Rattle.std.proofs.lemmas.List.{length-set}
use Rattle.std.proofs.lemmas.List.Sums.{sum_by-cons, sum_by-set}
use Rattle.std.proofs.lemmas.List.Elements.{All-set}
use native.Mathlib.Decide.{dec_lt}
use mathlib.Core.Logic.{dite}
use Rattle.crossbeam_deque.specs.Handles.{worker_view}
use Rattle.mark_core.specs.declared.graph.Graph.{Graph}
use Rattle.mark_core.specs.Bits.{times}
use Rattle.mark_core.proofs.Counts.{times-append}
use Rattle.steal_mark.specs.declared.shared.claims.Claims.{Claims}
use Rattle.steal_mark.specs.declared.shared.deques.PassView.{PassView}
use Rattle.steal_mark.specs.Claiming.{looked}
use Rattle.steal_mark.specs.Closing.{pushed_in}
use Rattle.steal_mark.specs.Dealing.{Pushed, SameDeque}
use Rattle.steal_mark.specs.Starting.{Deals, IsDealing, pushed_to}
use Rattle.steal_mark.specs.Parts.{Deque}

module _ (g : Graph) (xs : List ℕ) (n : ℕ) (v w w' : Claims) (before after : List Deque) (d : Deals g xs v w before after) where
  -- a root that was claimed before is seen, and no more
  pub deals_seen : w' ≡ looked n 1 w → Deals g (xs ++ n ∷ []) v w' before after
  deals_seen is = record {
    parts = ap (λ (c : Claims). c.parts) is ∙ d.parts;
    seen = ap (λ (c : Claims). c.seen) is ∙ ap (λ l. l ++ n ∷ []) d.seen ∙ append_assoc v.seen xs (n ∷ []);
    among = λ k h. let a = ap (λ (c : Claims). times k c.claimed) is in let b = times-append k xs (n ∷ []) in let e = d.among k (omega arith) in omega arith;
    pushed = λ k. let a = ap (λ (c : Claims). times k c.claimed) is in let b = d.pushed k in omega arith;
    deques = d.deques;
    many = d.many;
  }

  module _ (next : ℕ) (r y : Deque) (is : w' ≡ looked n 0 w) (inside : next < length after) (same : SameDeque (get_or after next r) y) (put : Pushed (worker_view (get_or after next r)) (n ∷ []) (worker_view y)) where
    -- the deque whose turn it is
    abbrev x : Deque
    x = get_or after next r

    -- a new root is claimed, and pushed to one deque
    pub deals_put : Deals g (xs ++ n ∷ []) v w' before (set after next y)
    deals_put =
        let was : IsDealing g x = d.deques next r inside in
        record {
          parts = ap (λ (c : Claims). c.parts) is ∙ d.parts;
          seen = ap (λ (c : Claims). c.seen) is ∙ ap (λ l. l ++ n ∷ []) d.seen ∙ append_assoc v.seen xs (n ∷ []);
          among = λ k h.
              let a : times k w'.claimed ≡ times k (w.claimed ++ n ∷ []) = ap (λ (c : Claims). times k c.claimed) is in
              let b = times-append k xs (n ∷ []) in let f = times-append k w.claimed (n ∷ []) in
              dite (dec_lt 0 (times k w.claimed)) (λ (p : 0 < times k w.claimed). let e = d.among k p in omega arith) (λ (np : ¬ (0 < times k w.claimed)). omega arith);
          pushed = λ k.
              let a : times k w'.claimed ≡ times k (w.claimed ++ n ∷ []) = ap (λ (c : Claims). times k c.claimed) is in
              let f = times-append k w.claimed (n ∷ []) in
              let s = sum_by-set (λ (z : Deque). times k (worker_view z).pushed) after next y r inside in
              let t : times k (worker_view y).pushed ≡ times k ((worker_view x).pushed ++ n ∷ []) = ap (λ (h : PassView). times k h.pushed) put in
              let u = times-append k (worker_view x).pushed (n ∷ []) in
              let b = d.pushed k in
              omega arith;
          deques = All-set (IsDealing g) after next y (record {
            fifo = same.1 ∙ was.fifo;
            graph = ap (λ (h : PassView). h.graph) put ∙ was.graph;
            parts = ap (λ (h : PassView). h.parts) put ∙ was.parts;
            taken = ap (λ (h : PassView). h.taken) put ∙ was.taken;
          }) d.deques;
          many = length-set after next y ∙ d.many;
        }

-- what was pushed to all deques, counted deque by deque
pub times_pushed : (n : ℕ) (ds : List Deque) → times n (pushed_to ds) ≡ pushed_in n ds
times_pushed n [] = refl
times_pushed n (d ∷ ds) =
    let a = times-append n (worker_view d).pushed (pushed_to ds) in
    let b = sum_by-cons (λ (x : Deque). times n (worker_view x).pushed) d ds in
    let c = times_pushed n ds in
    omega arith
