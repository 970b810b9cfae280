-- The place of the first that passes a test, and the first itself.
use Rattle.std.proofs.Common.{◌≡◌, ℕ, zero, suc, ◌+◌, Bool, true, false, not, cond, List, [], ◌∷◌, length, position, refl, sym, ap, ◌∙◌, arith, inl, inr, Option, Some, None, slice_get, option_map, lt-ltb, le-ltb, ltb-true, ltb-false}
use Rattle.std.specs.Prelude.{◌<◌, nat_lt, find, slice_index_or}
use Rattle.std.specs.List.{position_or_len}
use Rattle.std.proofs.lemmas.Bool.{cases_Bool}
use Rattle.std.proofs.lemmas.List.{get_or_default}

-- what is found stands at the place
abbrev pub AreTied : {X : Type 0} → List X → Option ℕ → Option X → Type 0
AreTied xs None None = Unit
AreTied xs (Some i) (Some x) = slice_get xs i ≡ Some x
AreTied xs None (Some x) = ⊥
AreTied xs (Some i) None = ⊥

tied_next : {X : Type 0} (x : X) (xs : List X) (o : Option ℕ) (w : Option X) → AreTied xs o w → AreTied (x ∷ xs) (option_map suc o) w
tied_next x xs None None t = t
tied_next x xs (Some i) (Some y) t = t
tied_next x xs None (Some y) t = t
tied_next x xs (Some i) None t = t

shifted : (l n : ℕ) → nat_lt (suc l) (suc n) ≡ nat_lt l n
shifted l n = elim (cases_Bool (nat_lt l n)) [
  | inl t ↦ lt-ltb (suc l) (suc n) (omega (arith, ltb-true l n t)) ∙ sym t
  | inr f ↦ le-ltb (suc l) (suc n) (omega (arith, ltb-false l n f)) ∙ sym f
]

module _ {X : Type 0} (p : X → Bool) where
  later : (l n : ℕ) → cond (nat_lt (1 + l) (suc n)) (Some (1 + l)) None ≡ option_map suc (cond (nat_lt l n) (Some l) None)
  later l n = let one_more : 1 + l ≡ suc l = omega arith in ap (λ k. cond (nat_lt k (suc n)) (Some k) None) one_more ∙ ap (λ b. cond b (Some (suc l)) None) (shifted l n) ∙ go (nat_lt l n)
    where
      go : (b : Bool) → cond b (Some (suc l)) None ≡ option_map suc (cond b (Some l) None)
      go true = refl
      go false = refl

  pub position_next : (x : X) (xs : List X) → position p (x ∷ xs) ≡ cond (p x) (Some zero) (option_map suc (position p xs))
  position_next x xs = go (p x)
    where
      go : (b : Bool) → cond (nat_lt (cond (not b) (1 + position_or_len p xs) 0) (suc (length xs))) (Some (cond (not b) (1 + position_or_len p xs) 0)) None ≡ cond b (Some zero) (option_map suc (position p xs))
      go true = ap (λ b. cond b (Some zero) None) (lt-ltb 0 (suc (length xs)) (omega arith))
      go false = later (position_or_len p xs) (length xs)

  pub tied : (xs : List X) → AreTied xs (position p xs) (find p xs)
  tied [] = tt
  tied (x ∷ xs) = rw (position_next x xs) (go (p x) (tied_next x xs (position p xs) (find p xs) (tied xs)))
    where
      go : (b : Bool) → AreTied (x ∷ xs) (option_map suc (position p xs)) (find p xs) → AreTied (x ∷ xs) (cond b (Some zero) (option_map suc (position p xs))) (cond b (Some x) (find p xs))
      go true t = refl
      go false t = t

  -- one that passes, after some that don't, is the first
  pub first_at : (xs : List X) (i : ℕ) → i < length xs → ((d : X) → p (slice_index_or xs i d) ≡ true) → ((k : ℕ) (d : X) → k < i → p (slice_index_or xs k d) ≡ false) → position p xs ≡ Some i
  first_at [] i lt at before = absurd (omega (arith, lt))
  first_at (x ∷ xs) zero lt at before = position_next x xs ∙ ap (λ b. cond b (Some zero) (option_map suc (position p xs))) (at x)
  first_at (x ∷ xs) (suc i) lt at before =
      position_next x xs ∙ ap (λ b. cond b (Some zero) (option_map suc (position p xs))) (before 0 x (omega arith))
      ∙ ap (option_map suc) (first_at xs i (omega (arith, lt)) at (λ k d less. before (suc k) d (omega (arith, less))))

  -- where none passes there is no first
  pub none_first : (xs : List X) → ((k : ℕ) (d : X) → k < length xs → p (slice_index_or xs k d) ≡ false) → position p xs ≡ None
  none_first [] fail = refl
  none_first (x ∷ xs) fail =
      position_next x xs ∙ ap (λ b. cond b (Some zero) (option_map suc (position p xs))) (fail 0 x (omega arith))
      ∙ ap (option_map suc) (none_first xs (λ k d less. fail (suc k) d (omega (arith, less))))

  -- one more that doesn't pass
  pub fail_more : (xs : List X) (i : ℕ) (x : X) → i < length xs → x ≡ slice_index_or xs i x → p x ≡ false → ((k : ℕ) (d : X) → k < i → p (slice_index_or xs k d) ≡ false)
      → (k : ℕ) (d : X) → k < i + 1 → p (slice_index_or xs k d) ≡ false
  fail_more xs i x lt is fails before k d less = elim (cases_Bool (nat_lt k i)) [
    | inl low ↦ before k d (ltb-true k i low)
    | inr high ↦ (let same : k ≡ i = omega (arith, ltb-false k i high, less) in ap (λ n. p (slice_index_or xs n d)) same ∙ ap p (sym (is ∙ get_or_default xs i x d lt)) ∙ fails)
  ]

  pub first_here : (xs : List X) (i : ℕ) (x : X) → i < length xs → x ≡ slice_index_or xs i x → p x ≡ true → ((k : ℕ) (d : X) → k < i → p (slice_index_or xs k d) ≡ false) → position p xs ≡ Some i
  first_here xs i x lt is passes before = first_at xs i lt (λ d. ap p (sym (is ∙ get_or_default xs i x d lt)) ∙ passes) before
