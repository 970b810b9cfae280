-- What halving finds in a sorted list of any type, by its order's own test of equality.
use Rattle.std.proofs.Common.{◌≡◌, ℕ, zero, suc, ◌<◌, Bool, true, false, List, [], ◌∷◌, length}
use Rattle.std.proofs.Common.{refl, sym, ap, ◌∙◌, arith, inl, inr, Ok, Err, Result, ltb-true, ltb-false}
use Rattle.std.specs.Prelude.{◌||◌, not, filter, nat_lt, slice_index_or, is_ok}
use Rattle.std.specs.List.{list_any}
use Rattle.std.specs.List.Sorted.{IsSorted, IsPermutation, IsBinarySearchResult, IsSearchInRange}
use Rattle.std.specs.Cmp.{IsTotalOrder}
use Rattle.std.specs.Ordering.{is_eq}
use Rattle.std.specs.declared.cmp.Ordering.{Ordering}
use Rattle.std.proofs.lemmas.Bool.{cases_Bool}
use Rattle.std.proofs.lemmas.List.Sorted.{searchable_from_sorted, list_any-IsPermutation}
use Rattle.meta_types.specs.Impacts.{less}

module _ {X : Type 0} (test : X → Bool) where
  hit_at : (xs : List X) (i : ℕ) → i < length xs
      → ((d : X) → test (slice_index_or xs i d) ≡ true) → list_any test xs ≡ true
  hit_at [] i lt h = absurd (omega (arith, lt))
  hit_at (x ∷ xs) zero lt h = ap (λ r. r || list_any test xs) (h x)
  hit_at (x ∷ xs) (suc i) lt h = elim (cases_Bool (test x)) [
    | inl t ↦ rw t refl
    | inr f ↦ rw f (hit_at xs i (omega (arith, lt)) h)
  ]

  no_hit : (xs : List X) → ((k : ℕ) (d : X) → k < length xs → test (slice_index_or xs k d) ≡ false)
      → list_any test xs ≡ false
  no_hit [] h = refl
  no_hit (x ∷ xs) h =
      λ j. h 0 x (omega arith) j || no_hit xs (λ k d lt. h (suc k) d (omega (arith, lt))) j

module _ {X : Type 0} (eq : X → X → Bool) (cmp : X → X → Ordering) (total : IsTotalOrder cmp)
    (ties : (x y : X) → eq x y ≡ is_eq (cmp x y)) where
  pub among : (xs : List X) (x : X) (r : Result ℕ ℕ) → IsSorted cmp xs
      → IsSearchInRange r (length xs) → IsBinarySearchResult (λ y. cmp y x) xs r
      → is_ok r ≡ list_any (λ y. eq y x) xs
  among xs x (Ok i) sorted lt h =
      sym (hit_at (λ y. eq y x) xs i lt (λ d. ties (slice_index_or xs i d) x ∙ ap is_eq (h d)))
  among xs x (Err i) sorted le h =
      let point = h (searchable_from_sorted total (λ y. y) xs x sorted) in
      sym (no_hit (λ y. eq y x) xs (λ k d lt. elim (cases_Bool (nat_lt k i)) [
        | inl low ↦
            ties (slice_index_or xs k d) x ∙ ap is_eq (point.0 k d (omega arith) (ltb-true k i low))
        | inr high ↦ ties (slice_index_or xs k d) x ∙ ap is_eq (point.1 k d (ltb-false k i high) lt)
      ]))

-- in which order the other list stands makes no difference
pub less_sorted : {X : Type 0} (eq : X → X → Bool) (list other sorted : List X)
    → IsPermutation other sorted
    → filter (λ x. not (list_any (λ y. eq y x) sorted)) list ≡ less eq list other
less_sorted eq list other sorted p =
    sym (λ i. filter (λ x. not (list_any-IsPermutation (λ y. eq y x) other sorted p i)) list)
