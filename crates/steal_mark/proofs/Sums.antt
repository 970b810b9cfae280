-- Sums over views, of which one changes.
use Rattle.std.proofs.Common.{◌≡◌, ◌≢◌, ℕ, zero, suc, ◌+◌, ◌≤◌, List, [], ◌∷◌, ◌++◌, set, refl, sym, ap, subst, ⊎_elim, arith}
use Rattle.std.specs.Prelude.{sum_by}
use Rattle.std.proofs.lemmas.List.Sums.{sum_by-cons}
use mathlib.Core.Option.{some, some-ne-none, some-injective}
use lib.ListN.{get_elem?}
use Rattle.atomic_table.proofs.Lists.{at_set, at_snoc}

module _ {A : Type 0} (f : A → ℕ) where
  -- a sum changes by the one term that is written
  pub sum_set : (l : List A) (i : ℕ) (a b : A) → get_elem? l i ≡ some a → sum_by f (set l i b) + f a ≡ sum_by f l + f b
  sum_set [] i a b e = absurd (some-ne-none a (sym e))
  sum_set (x ∷ xs) zero a b e =
      let p = sum_by-cons f x xs in let q = sum_by-cons f b xs in let r : f x ≡ f a = ap f (some-injective x a e) in omega arith
  sum_set (x ∷ xs) (suc i) a b e =
      let p = sum_by-cons f x xs in let q = sum_by-cons f x (set xs i b) in let r : sum_by f (set xs i b) + f a ≡ sum_by f xs + f b = sum_set xs i a b e in omega arith

  -- one of the views is at most the whole
  pub one_le : (l : List A) (i : ℕ) (a : A) → get_elem? l i ≡ some a → f a ≤ sum_by f l
  one_le [] i a e = absurd (some-ne-none a (sym e))
  one_le (x ∷ xs) zero a e = let p = sum_by-cons f x xs in let r : f x ≡ f a = ap f (some-injective x a e) in omega arith
  one_le (x ∷ xs) (suc i) a e = let p = sum_by-cons f x xs in let r : f a ≤ sum_by f xs = one_le xs i a e in omega arith

  -- two of the views are at most the whole
  pub two_le : (l : List A) (i j : ℕ) (a b : A) → i ≢ j → get_elem? l i ≡ some a → get_elem? l j ≡ some b → f a + f b ≤ sum_by f l
  two_le [] i j a b ne e d = absurd (some-ne-none a (sym e))
  two_le (x ∷ xs) zero zero a b ne e d = absurd (ne refl)
  two_le (x ∷ xs) zero (suc j) a b ne e d = let p = sum_by-cons f x xs in let r : f x ≡ f a = ap f (some-injective x a e) in let q : f b ≤ sum_by f xs = one_le xs j b d in omega arith
  two_le (x ∷ xs) (suc i) zero a b ne e d = let p = sum_by-cons f x xs in let r : f x ≡ f b = ap f (some-injective x b d) in let q : f a ≤ sum_by f xs = one_le xs i a e in omega arith
  two_le (x ∷ xs) (suc i) (suc j) a b ne e d = let p = sum_by-cons f x xs in let q : f a + f b ≤ sum_by f xs = two_le xs i j a b (λ h. ne (ap suc h)) e d in omega arith

-- where one view has all that f counts, and h is 0 of each view with no f, h counts that view alone
module _ {A : Type 0} (f h : A → ℕ) where
  -- where f counts nothing, h counts nothing
  none_left : (l : List A) → sum_by f l ≡ 0 → ((j : ℕ) (u : A) → get_elem? l j ≡ some u → f u ≡ 0 → h u ≡ 0) → sum_by h l ≡ 0
  none_left [] z idle = refl
  none_left (x ∷ xs) z idle =
      let p = sum_by-cons f x xs in let q = sum_by-cons h x xs in
      let here : h x ≡ 0 = idle 0 x refl (omega arith) in
      let rest : sum_by h xs ≡ 0 = none_left xs (omega arith) (λ j u e. idle (suc j) u e) in
      omega arith

  -- the others have no f, so they have no h
  pub all_in_one : (l : List A) (i : ℕ) (a : A) → get_elem? l i ≡ some a → f a ≡ sum_by f l → ((j : ℕ) (u : A) → get_elem? l j ≡ some u → f u ≡ 0 → h u ≡ 0) → sum_by h l ≡ h a
  all_in_one [] i a e all idle = absurd (some-ne-none a (sym e))
  all_in_one (x ∷ xs) zero a e all idle =
      let p = sum_by-cons f x xs in let q = sum_by-cons h x xs in
      let r : f x ≡ f a = ap f (some-injective x a e) in let s : h x ≡ h a = ap h (some-injective x a e) in
      let rest : sum_by h xs ≡ 0 = none_left xs (omega arith) (λ j u e'. idle (suc j) u e') in
      omega arith
  all_in_one (x ∷ xs) (suc i) a e all idle =
      let p = sum_by-cons f x xs in let q = sum_by-cons h x xs in
      let l = one_le f xs i a e in
      let here : h x ≡ 0 = idle 0 x refl (omega arith) in
      let rest : sum_by h xs ≡ h a = all_in_one xs i a e (omega arith) (λ j u e'. idle (suc j) u e') in
      omega arith

-- a fact of each view, where one is written, and where one is added
abbrev pub Each : {A : Type 0} → (A → Type 0) → List A → Type 0
Each {A} P l = (j : ℕ) (u : A) → get_elem? l j ≡ some u → P u

module _ {A : Type 0} (P : A → Type 0) where
  -- the written view has the fact, and so have the others
  pub each_set : (l : List A) (i : ℕ) (a : A) → Each P l → P a → Each P (set l i a)
  each_set l i a all here j u e = ⊎_elim (λ (x : (j ≡ i) × (a ≡ u)). subst P x.1 here) (λ (x : (j ≢ i) × (get_elem? l j ≡ some u)). all j u x.1) (at_set l i j a u e)

  -- the added view has the fact, and so have the others
  pub each_push : (l : List A) (a : A) → Each P l → P a → Each P (l ++ a ∷ [])
  each_push l a all here j u e = ⊎_elim (λ (x : get_elem? l j ≡ some u). all j u x) (λ (x : a ≡ u). subst P x here) (at_snoc l a u j e)
