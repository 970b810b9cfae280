-- Each step keeps the rule of a deque.
use Rattle.std.proofs.Common.{◌≡◌, ◌≢◌, ℕ, ◌+◌, ◌-◌, ◌<◌, List, [], ◌∷◌, ◌++◌, length, set, refl, sym, ap, ◌∙◌, subst, ⊎_elim, arith}
use Rattle.std.specs.Prelude.{All, sum_by, Option, None}
use Rattle.std.proofs.lemmas.List.Elements.{All-append, All-weaker, All-take, All-drop}
use lib.Seq.{take-append_seam, drop-append_seam}
use Rattle.std.proofs.lemmas.List.Sums.{sum_by_push}
use mathlib.Core.Option.{some}
use Rattle.atomic_table.proofs.Lists.{at_set}
use lib.ListN.{get_elem?}
use Rattle.crossbeam_deque.specs.Tasks.{Pushes, Takes, Finds, FindsFew, Forks, Merges, Learns}
use Rattle.mark_core.specs.declared.graph.Graph.{Graph}
use Rattle.mark_core.specs.Bits.{times}
use Rattle.mark_core.proofs.Counts.{times-append}
use Rattle.steal_mark.specs.declared.shared.deques.PassView.{PassView}
use Rattle.steal_mark.specs.Dealing.{pass_view, ReachedIn, Holds, IsDealt, Pushed, Taken, Emptied, cut_left, cut_right, joined, NoMore}
use Rattle.steal_mark.proofs.Sums.{sum_set, two_le, all_in_one, each_set, each_push}

-- the owner pushes what is reached: pushed and held grow by the same
pub pushes : (port : ℕ) (v : PassView) (xs : List ℕ) → 0 < v.parts → All (ReachedIn v.graph) xs → Pushes IsDealt port v xs (Pushed v xs)
pushes port v xs some_part here items views h at =
    let w : PassView = pass_view v.parts v.graph (v.pushed ++ xs) v.taken in
    let mine = h.each port v at in (
      w,
      record {
        graph = h.graph;
        parts = let a = sum_set (λ u. u.parts) views port v w at in let p = h.parts in omega arith;
        counted = λ n.
            let a = sum_set (λ u. times n u.pushed) views port v w at in
            let b = sum_set (λ u. times n u.taken) views port v w at in
            let c = times-append n v.pushed xs in let d = times-append n items xs in let e = h.counted n in
            omega arith;
        reached = All-append (ReachedIn h.graph) items xs h.reached (subst (λ g. All (ReachedIn g) xs) (mine.knows some_part) here);
        each = each_set (Holds h.graph) views port w h.each (record { knows = mine.knows; idle = λ z. absurd (omega arith) });
      },
      refl,
    )

-- what holds of all holds of the front
left_of : (P : ℕ → Type 0) (xs ys : List ℕ) → All P (xs ++ ys) → All P xs
left_of P xs ys h = subst (All P) (take-append_seam xs ys) (All-take P (length xs) (xs ++ ys) h)

-- what holds of all holds of the rest
right_of : (P : ℕ → Type 0) (xs ys : List ℕ) → All P (xs ++ ys) → All P ys
right_of P xs ys h = subst (All P) (drop-append_seam xs ys) (All-drop P (length xs) (xs ++ ys) h)

-- a pass takes the front: taken grows by what is held no more
pub takes : (port : ℕ) (v : PassView) → 0 < v.parts → Takes IsDealt port v 1 (Taken v)
takes port v some_part xs items views some_xs few h at =
    let w : PassView = pass_view v.parts v.graph v.pushed (v.taken ++ xs) in
    let mine = h.each port v at in (
      w,
      record {
        graph = h.graph;
        parts = let a = sum_set (λ u. u.parts) views port v w at in let p = h.parts in omega arith;
        counted = λ n.
            let a = sum_set (λ u. times n u.pushed) views port v w at in
            let b = sum_set (λ u. times n u.taken) views port v w at in
            let c = times-append n v.taken xs in let d = times-append n xs items in let e = h.counted n in
            omega arith;
        reached = right_of (ReachedIn h.graph) xs items h.reached;
        each = each_set (Holds h.graph) views port w h.each (record { knows = mine.knows; idle = λ z. absurd (omega arith) });
      },
      (refl, subst (λ g. All (ReachedIn g) xs) (sym (mine.knows some_part)) (left_of (ReachedIn h.graph) xs items h.reached)),
    )

-- who has every part knows what all have pushed and taken
module _ (items : List ℕ) (views : List PassView) (h : IsDealt items views) (port : ℕ) (v : PassView) (at : get_elem? views port ≡ some v) (all : v.parts ≡ 1024) where
  -- who has every part has pushed and taken all
  whole : (f : PassView → ℕ) → ((u : PassView) → u.pushed ≡ [] → u.taken ≡ [] → f u ≡ 0) → sum_by f views ≡ f v
  whole f zero_of =
      all_in_one (λ (u : PassView). u.parts) f views port v at (all ∙ sym h.parts) (λ j u e z. let i = (h.each j u e).idle z in zero_of u i.0 i.1)

  -- so its own lists tell what the deque holds
  pub balance : (n : ℕ) → times n v.pushed ≡ times n v.taken + times n items
  balance n =
      let a = whole (λ u. times n u.pushed) (λ u p t. ap (times n) p) in
      let b = whole (λ u. times n u.taken) (λ u p t. ap (times n) t) in
      let c = h.counted n in
      omega arith

-- an empty deque holds nothing, so all that was pushed was taken
pub finds : (port : ℕ) (v : PassView) → Finds IsDealt port v (Emptied v)
finds port v views h at all n = let b = balance [] views h port v at all n in omega arith

-- the same where fewer than asked for are there
pub finds_few : (port : ℕ) (v : PassView) → FindsFew IsDealt 0 port v (Emptied v)
finds_few port v [] views few h at all n = let b = balance [] views h port v at all n in omega arith
finds_few port v (x ∷ xs) views few h at all n = absurd (omega arith)

-- a new pass takes some parts with it, and no list
parted : (count port : ℕ) (v : PassView) → count < v.parts
    → Forks IsDealt port v (pass_view (v.parts - count) v.graph v.pushed v.taken)
    (pass_view count v.graph [] [])
parted count port v fewer items views h at =
    let l : PassView = pass_view (v.parts - count) v.graph v.pushed v.taken in
    let r : PassView = pass_view count v.graph [] [] in
    let mine = h.each port v at in
    let vs : List PassView = set views port l in
    record {
      graph = h.graph;
      parts =
          let a = sum_set (λ u. u.parts) views port v l at in
          let b = sum_by_push (λ (u : PassView). u.parts) vs r in
          let p = h.parts in
          omega arith;
      counted = λ n.
          let a = sum_set (λ u. times n u.pushed) views port v l at in
          let b = sum_by_push (λ (u : PassView). times n u.pushed) vs r in
          let c = sum_set (λ u. times n u.taken) views port v l at in
          let d = sum_by_push (λ (u : PassView). times n u.taken) vs r in
          let e = h.counted n in
          omega arith;
      reached = h.reached;
      each = each_push (Holds h.graph) vs r
          (each_set (Holds h.graph) views port l h.each
          (record { knows = λ p. mine.knows (omega arith); idle = λ z. absurd (omega arith) }))
          (record { knows = λ p. mine.knows (omega arith); idle = λ z. (refl, refl) });
    }

-- a new pass takes one part with it
pub forks : (port : ℕ) (v : PassView) → 1 < v.parts
    → Forks IsDealt port v (cut_left v) (cut_right v)
forks port v = parted 1 port v

-- a pass with no part
pub watches : (port : ℕ) (v : PassView) → 0 < v.parts
    → Forks IsDealt port v (pass_view (v.parts - 0) v.graph v.pushed v.taken)
    (pass_view 0 v.graph [] [])
watches port v = parted 0 port v

-- the first pass learns the graph
pub names : (port : ℕ) (v : PassView) (graph : Option Graph) → v.parts ≡ 1024 → v.graph ≡ None → Forks IsDealt port v (pass_view v.parts graph v.pushed v.taken) (pass_view 0 None [] [])
names port v graph all new items views h at =
    let l : PassView = pass_view v.parts graph v.pushed v.taken in let r : PassView = pass_view 0 None [] [] in
    let mine = h.each port v at in
    let vs : List PassView = set views port l in
    let none : h.graph ≡ None = sym (mine.knows (omega arith)) ∙ new in
    let idle : (j : ℕ) (u : PassView) → get_elem? views j ≡ some u → j ≢ port → u.parts ≡ 0 = λ j u e ne. let t = two_le (λ (x : PassView). x.parts) views j port u v ne e at in let p = h.parts in omega arith in
    record {
      graph = graph;
      parts = let a = sum_set (λ u. u.parts) views port v l at in let b = sum_by_push (λ (u : PassView). u.parts) vs r in let p = h.parts in omega arith;
      counted = λ n.
          let a = sum_set (λ u. times n u.pushed) views port v l at in let b = sum_by_push (λ (u : PassView). times n u.pushed) vs r in
          let c = sum_set (λ u. times n u.taken) views port v l at in let d = sum_by_push (λ (u : PassView). times n u.taken) vs r in
          let e = h.counted n in omega arith;
      reached = All-weaker (ReachedIn None) (ReachedIn graph) (λ n (no : ⊥). absurd no) items (subst (λ o. All (ReachedIn o) items) none h.reached);
      each = each_push (Holds graph) vs r
          (λ j u e. ⊎_elim (λ (x : (j ≡ port) × (l ≡ u)). subst (Holds graph) x.1 (record { knows = λ p. refl; idle = λ z. absurd (omega arith) }))
          (λ (x : (j ≢ port) × (get_elem? views j ≡ some u)). record { knows = λ p. absurd (let z = idle j u x.1 x.0 in omega arith); idle = (h.each j u x.1).idle }) (at_set views port j l u e))
          (record { knows = λ p. absurd (omega arith); idle = λ z. (refl, refl) });
    }

-- a pass gives its view to the worker
pub merges : (port : ℕ) (v : PassView) (other : ℕ) (w : PassView) → 0 < v.parts → Merges IsDealt port v other w (joined v w) (pass_view 0 None [] [])
merges port v other w some_part items views h at apart at' =
    let both : PassView = joined v w in let spent : PassView = pass_view 0 None [] [] in
    let mine = h.each port v at in
    let vs : List PassView = set views port both in
    let was : get_elem? views other ≡ some w = ⊎_elim (λ x. absurd (apart x.0)) (λ x. x.1) (at_set views port other both w at') in
    record {
      graph = h.graph;
      parts = let a = sum_set (λ u. u.parts) views port v both at in let b = sum_set (λ (u : PassView). u.parts) vs other w spent at' in let p = h.parts in omega arith;
      counted = λ n.
          let a = sum_set (λ u. times n u.pushed) views port v both at in let b = sum_set (λ (u : PassView). times n u.pushed) vs other w spent at' in
          let c = sum_set (λ u. times n u.taken) views port v both at in let d = sum_set (λ (u : PassView). times n u.taken) vs other w spent at' in
          let e = times-append n v.pushed w.pushed in let f = times-append n v.taken w.taken in
          let k = h.counted n in
          omega arith;
      reached = h.reached;
      each = each_set (Holds h.graph) vs other spent
          (each_set (Holds h.graph) views port both h.each (record { knows = λ p. mine.knows some_part; idle = λ z. absurd (omega arith) }))
          (record { knows = λ p. absurd (omega arith); idle = λ z. (refl, refl) });
    }

-- what was taken was pushed
pub no_more : (port : ℕ) (v : PassView) → Learns IsDealt port v (NoMore v)
no_more port v items views h at all n = let b = balance items views h port v at all n in omega arith
