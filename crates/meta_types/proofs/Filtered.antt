-- What a filter of a list is, once more.
use Rattle.std.proofs.Common.{◌≡◌, Bool, true, false, not, List, [], ◌∷◌, ◌++◌, map, refl, ap, ◌∙◌, inl, inr}
use Rattle.std.specs.Prelude.{filter}
use Rattle.std.specs.List.{list_any}
use Rattle.std.proofs.lemmas.List.Elements.{filter-append}
use Rattle.std.proofs.lemmas.Bool.{cases_Bool}
use Rattle.meta_types.specs.Keys.{Key, is_first, are_in_order}
use Rattle.meta_types.proofs.Ordered.{before_trans}
use Rattle.std.proofs.lemmas.Bool.{and_parts, and_from}

module _ {X : Type 0} where
  -- what a test keeps it keeps again
  pub filter_again : (p : X → Bool) (xs : List X) → filter p (filter p xs) ≡ filter p xs
  filter_again p [] = refl
  filter_again p (x ∷ xs) = elim (cases_Bool (p x)) [
    | inl t ↦ rw (t, t) (ap (λ ys. x ∷ ys) (filter_again p xs))
    | inr f ↦ rw f (filter_again p xs)
  ]

  -- and of that it gives up nothing
  pub none_goes : (p : X → Bool) (xs : List X) → filter (λ x. not (p x)) (filter p xs) ≡ []
  none_goes p [] = refl
  none_goes p (x ∷ xs) = elim (cases_Bool (p x)) [
    | inl t ↦ rw (t, t) (none_goes p xs)
    | inr f ↦ rw f (none_goes p xs)
  ]

  -- a filter of mapped items maps the items whose maps pass
  pub filter_mapped : {Y : Type 0} (p : Y → Bool) (f : X → Y) (xs : List X) → filter p (map f xs) ≡ map f (filter (λ x. p (f x)) xs)
  filter_mapped p f [] = refl
  filter_mapped p f (x ∷ xs) = elim (cases_Bool (p (f x))) [
    | inl t ↦ rw t (ap (λ ys. f x ∷ ys) (filter_mapped p f xs))
    | inr t ↦ rw t (filter_mapped p f xs)
  ]

  -- a filter by a test that all pass is the list
  pub all_stay : (xs : List X) → filter (λ _. true) xs ≡ xs
  all_stay [] = refl
  all_stay (x ∷ xs) = ap (λ ys. x ∷ ys) (all_stay xs)

-- what a test leaves of a list
pub record Leaves {X : Type 0} (p : X → Bool) (xs ys : List X) : Type 0 where
  pub is : filter p xs ≡ ys

module _ {X : Type 0} {p : X → Bool} where
  -- of two lists, one behind the other, it leaves what it leaves of each
  pub joined : {xs ys us vs : List X} → Leaves p xs us → Leaves p ys vs → Leaves p (xs ++ ys) (us ++ vs)
  joined {xs} {ys} {us} {vs} a b = record { is = filter-append p xs ys ∙ (λ i. a.is i ++ b.is i) }

-- a list that a test finds nothing in
pub none_passes : {X : Type 0} (p : X → Bool) → ((x : X) → p x ≡ false) → (xs : List X) → list_any p xs ≡ false
none_passes p none [] = refl
none_passes p none (x ∷ xs) = rw (none x, none_passes p none xs) refl

module _ {Row : Type 0} (key_of : Row → Key) (p : Row → Bool) where
  -- a row before the first of some stands before the first of those that a test keeps
  first_filtered : (before : Row) (rows : List Row) → is_first key_of before rows ≡ true → are_in_order key_of rows ≡ true → is_first key_of before (filter p rows) ≡ true
  first_filtered before [] h o = refl
  first_filtered before (next ∷ rows) h o = elim (cases_Bool (p next)) [
    | inl t ↦ rw t h
    | inr f ↦ rw f (let parts = and_parts (is_first key_of next rows) (are_in_order key_of rows) o in first_filtered before rows (skip rows parts.0) parts.1)
  ]
    where
      skip : (rs : List Row) → is_first key_of next rs ≡ true → is_first key_of before rs ≡ true
      skip [] q = refl
      skip (r ∷ rs) q = before_trans (key_of before) (key_of next) (key_of r) h q

  -- rows that a test keeps stay in order
  pub in_order_filtered : (rows : List Row) → are_in_order key_of rows ≡ true → are_in_order key_of (filter p rows) ≡ true
  in_order_filtered [] o = refl
  in_order_filtered (row ∷ rows) o =
      let parts = and_parts (is_first key_of row rows) (are_in_order key_of rows) o in
      elim (cases_Bool (p row)) [
        | inl t ↦ rw t (and_from (is_first key_of row (filter p rows)) (are_in_order key_of (filter p rows)) (first_filtered row rows parts.0 parts.1) (in_order_filtered rows parts.1))
        | inr f ↦ rw f (in_order_filtered rows parts.1)
      ]
