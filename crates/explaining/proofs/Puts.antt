-- A number that is put where it goes first.
use Rattle.std.proofs.Common.{◌≡◌, ℕ, zero, suc, ◌+◌, ◌<◌, Bool, true, false, List, [], ◌∷◌, length, get_or, take, refl, sym, ap, ◌∙◌, subst, arith, Option, Some, None}
use Rattle.std.specs.Prelude.{◌&&◌, ◌||◌, ◌==◌, IfSome, if◌then◌else◌}
use Rattle.std.specs.List.{list_any}
use Rattle.gc_graph.proofs.Truths.{or_none}
use Rattle.explaining.specs.Firsts.{chosen, AreWithin}
use Rattle.explaining.proofs.ChosenTwice.{chosen_twice}

module _ (before : ℕ → ℕ → Bool) (from : ℕ) where
  module _ (count : ℕ) (lt : from < count) where
    one_within : (c : Bool) (o : Option ℕ) → IfSome o (λ b. b < count) → IfSome (chosen before c from o) (λ b. b < count)
    one_within false None h = h
    one_within true None h = lt
    one_within c (Some m) h = go (c && before from m)
      where
        go : (b : Bool) → IfSome (if b then Some from else Some m) (λ k. k < count)
        go true = lt
        go false = h

    -- all numbers stay below the count
    pub all_within : (old new : List (Option ℕ)) (test : ℕ → Bool) (long : ℕ) → length old ≡ long → length new ≡ long → AreWithin count old
        → ((t : ℕ) → t < long → get_or new t None ≡ chosen before (test t) from (get_or old t None)) → AreWithin count new
    all_within old new test long lo ln h each = λ t below.
        subst (λ (o : Option ℕ). IfSome o (λ b. b < count)) (sym (each t (omega arith))) (one_within (test t) (get_or old t None) (h t (omega arith)))

-- ---- one target after another

one_more_any : {X : Type 0} (p : X → Bool) (xs : List X) (i k : ℕ) (d : X) → k ≡ i + 1 → i < length xs → list_any p (take k xs) ≡ (list_any p (take i xs) || p (get_or xs i d))
one_more_any p [] i k d up lt = absurd (omega (arith, lt))
one_more_any p (x ∷ xs) i zero d up lt = absurd (omega (arith, up))
one_more_any p (x ∷ xs) zero (suc k) d up lt =
    let none : k ≡ 0 = omega (arith, up) in
    ap (λ j. p x || list_any p (take j xs)) none ∙ or_none (p x)
one_more_any p (x ∷ xs) (suc i) (suc k) d up lt =
    ap (λ b. p x || b) (one_more_any p xs i k d (omega (arith, up)) (omega (arith, lt))) ∙ grouped (p x) (list_any p (take i xs)) (p (get_or xs i d))
  where
    grouped : (a b c : Bool) → (a || (b || c)) ≡ ((a || b) || c)
    grouped true b c = refl
    grouped false b c = refl

both_tests : (a b s : Bool) → ((a && s) || (b && s)) ≡ ((a || b) && s)
both_tests true true true = refl
both_tests true true false = refl
both_tests true false true = refl
both_tests true false false = refl
both_tests false b s = refl

-- the targets so far, and one more
pub target_more : (before : ℕ → ℕ → Bool) (from : ℕ) (targets : List ℕ) (i t d : ℕ) (step : Bool) (first now new : Option ℕ) → i < length targets
    → now ≡ chosen before (list_any (λ b. b == t) (take i targets) && step) from first
    → new ≡ chosen before ((get_or targets i d == t) && step) from now
    → new ≡ chosen before (list_any (λ b. b == t) (take (i + 1) targets) && step) from first
target_more before from targets i t d step first now new lt h e =
    e ∙ ap (chosen before ((get_or targets i d == t) && step) from) h
    ∙ chosen_twice before from (list_any (λ b. b == t) (take i targets) && step) ((get_or targets i d == t) && step) first
    ∙ ap (λ b. chosen before b from first) (both_tests (list_any (λ b. b == t) (take i targets)) (get_or targets i d == t) step
    ∙ ap (λ b. b && step) (sym (one_more_any (λ b. b == t) targets i (i + 1) d refl lt)))
