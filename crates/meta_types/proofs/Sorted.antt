-- A list in an order: it has the items of the list, and no later one stands before an earlier one.
use Rattle.std.proofs.Common.{◌≡◌, Bool, true, false, List, [], ◌∷◌, map, arith, subst, inl, inr}
use Rattle.std.specs.Prelude.{All, AllPairs, Contains}
use Rattle.std.proofs.lemmas.Bool.{cases_Bool}
use Rattle.std.proofs.lemmas.List.Elements.{All-contains, All-contains_itself, All-weaker}
use Rattle.std.proofs.lemmas.List.Kept.{AllPairs-cons}
use Rattle.meta_types.specs.Keys.{put_in_order, in_order}
use Rattle.meta_types.proofs.Members.{here, later, first_or_later, none_in_nothing}
use Rattle.meta_types.proofs.FilteredNames.{from_map}
use Rattle.meta_types.proofs.ListSearches.{pairs_head, pairs_tail}

-- ---- what holds of members

module _ {X : Type 0} where
  -- what holds of each member holds of all
  pub all_from_each : (P : X → Type 0) (xs : List X) → ((x : X) → Contains xs x → P x) → All P xs
  all_from_each P xs each = All-weaker (Contains xs) P each xs (All-contains_itself xs)

  -- what two members are, where they stand so
  pub pairs_of_members : (R Q : X → X → Type 0) (xs : List X) → ((a b : X) → Contains xs a → Contains xs b → R a b → Q a b) → AllPairs R xs → AllPairs Q xs
  pairs_of_members R Q xs weaker h i j d lt within =
      weaker _ _ (All-contains_itself xs i d (omega (arith, lt, within))) (All-contains_itself xs j d within) (h i j d lt within)

-- of images as of the items
pub pairs_of_images : {X Y : Type 0} (f : X → Y) (R : Y → Y → Type 0) (xs : List X) → AllPairs (λ a b. R (f a) (f b)) xs → AllPairs R (map f xs)
pairs_of_images f R [] h = λ i j d lt within. absurd (omega (arith, within))
pairs_of_images f R (x ∷ xs) h =
    AllPairs-cons R (f x) (map f xs)
    (all_from_each (R (f x)) (map f xs) (λ y c. let m = from_map f xs y c in
    subst (R (f x)) m.2 (All-contains (λ z. R (f x) (f z)) xs m.0 (pairs_head (λ a b. R (f a) (f b)) x xs h) m.1)))
    (pairs_of_images f R xs (pairs_tail (λ a b. R (f a) (f b)) x xs h))

-- ---- in an order

module _ {X : Type 0} (before : X → X → Bool) where
  in_put : (x : X) (xs : List X) (z : X) → Contains (put_in_order before x xs) z → Contains (x ∷ xs) z
  in_put x [] z c = c
  in_put x (y ∷ xs) z c = elim (cases_Bool (before x y)) [
    | inl t ↦ rw t at c
    | inr f ↦ (
        let c' : Contains (y ∷ put_in_order before x xs) z = rw f at c in
        elim (first_or_later y (put_in_order before x xs) z c') [
          | inl same ↦ later x (y ∷ xs) z (subst (Contains (y ∷ xs)) same (here y xs))
          | inr more ↦ elim (first_or_later x xs z (in_put x xs z more)) [
            | inl is ↦ subst (Contains (x ∷ y ∷ xs)) is (here x (y ∷ xs))
            | inr old ↦ later x (y ∷ xs) z (later y xs z old)
          ]
        ])
  ]

  put_has : (x : X) (xs : List X) (z : X) → Contains (x ∷ xs) z → Contains (put_in_order before x xs) z
  put_has x [] z c = c
  put_has x (y ∷ xs) z c = elim (cases_Bool (before x y)) [
    | inl t ↦ rw t c
    | inr f ↦ rw f (elim (first_or_later x (y ∷ xs) z c) [
      | inl is ↦ later y (put_in_order before x xs) z (put_has x xs z (subst (Contains (x ∷ xs)) is (here x xs)))
      | inr more ↦ elim (first_or_later y xs z more) [
        | inl same ↦ subst (Contains (y ∷ put_in_order before x xs)) same (here y (put_in_order before x xs))
        | inr old ↦ later y (put_in_order before x xs) z (put_has x xs z (later x xs z old))
      ]
    ])
  ]

  -- what stands in it stands in the list
  pub in_ordered : (xs : List X) (z : X) → Contains (in_order before xs) z → Contains xs z
  in_ordered [] z c = c
  in_ordered (x ∷ xs) z c = elim (first_or_later x (in_order before xs) z (in_put x (in_order before xs) z c)) [
    | inl is ↦ subst (Contains (x ∷ xs)) is (here x xs)
    | inr more ↦ later x xs z (in_ordered xs z more)
  ]

  -- and the other way
  pub ordered_has : (xs : List X) (z : X) → Contains xs z → Contains (in_order before xs) z
  ordered_has [] z c = c
  ordered_has (x ∷ xs) z c = put_has x (in_order before xs) z (elim (first_or_later x xs z c) [
    | inl is ↦ subst (Contains (x ∷ in_order before xs)) is (here x (in_order before xs))
    | inr more ↦ later x (in_order before xs) z (ordered_has xs z more)
  ])

  module _ (one_way : (x y : X) → before x y ≡ true → before y x ≡ false) (chain : (x y z : X) → before x y ≡ false → before y z ≡ false → before x z ≡ false) where
    -- the later one doesn't stand before the earlier
    abbrev pub Behind : X → X → Type 0
    Behind early late = before late early ≡ false

    put_pairs : (x : X) (xs : List X) → AllPairs Behind xs → AllPairs Behind (put_in_order before x xs)
    put_pairs x [] h = AllPairs-cons Behind x [] (all_from_each (Behind x) [] (λ z c. none_in_nothing z c)) h
    put_pairs x (y ∷ xs) h = elim (cases_Bool (before x y)) [
      | inl t ↦ rw t (AllPairs-cons Behind x (y ∷ xs) (all_from_each (Behind x) (y ∷ xs) (λ z c. elim (first_or_later y xs z c) [
        | inl same ↦ subst (Behind x) same (one_way x y t)
        | inr more ↦ chain z y x (All-contains (Behind y) xs z (pairs_head Behind y xs h) more) (one_way x y t)
      ])) h)
      | inr f ↦ rw f (AllPairs-cons Behind y (put_in_order before x xs) (all_from_each (Behind y) (put_in_order before x xs) (λ z c. elim (first_or_later x xs z (in_put x xs z c)) [
        | inl same ↦ subst (Behind y) same f
        | inr more ↦ All-contains (Behind y) xs z (pairs_head Behind y xs h) more
      ])) (put_pairs x xs (pairs_tail Behind y xs h)))
    ]

    pub order_pairs : (xs : List X) → AllPairs Behind (in_order before xs)
    order_pairs [] = λ i j d lt within. absurd (omega (arith, within))
    order_pairs (x ∷ xs) = put_pairs x (in_order before xs) (order_pairs xs)
