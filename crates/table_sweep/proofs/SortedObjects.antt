-- A sorted list of the same items is the list put in order.
use Rattle.std.proofs.Common.{◌≡◌, ℕ, suc, ◌+◌, ◌≤◌, Bool, true, false, not, List, [], ◌∷◌, refl, sym, ap, ◌∙◌, subst, arith, inl, inr}
use Rattle.std.specs.Prelude.{◌&&◌, slice_index_or, if◌then◌else◌, ⊤}
use Rattle.std.specs.declared.cmp.Ordering.{Ordering}
use Rattle.std.specs.declared.cmp.Ordering.TheVariants.{Less, Equal, Greater}
use Rattle.std.specs.Ordering.{is_lt, ordering_reverse}
use Rattle.std.specs.Cmp.{IsTotalOrder, IsStrictWeakOrder}
use Rattle.std.specs.List.{AllByRecursion, sum_by}
use Rattle.std.specs.List.Sorted.{IsSorted, IsPermutation}
use Rattle.std.proofs.lemmas.Bool.{cases_Bool}
use Rattle.std.proofs.lemmas.List.Sums.{sum_by-cons}
use Rattle.std.proofs.lemmas.List.Sorted.{sum_by-IsPermutation}
use Rattle.meta_types.specs.Keys.{put_in_order, in_order}

-- the weights of all
abbrev weigh : {X : Type 0} → (X → ℕ) → List X → ℕ
weigh f [] = 0
weigh f (x ∷ xs) = f x + weigh f xs

weighed : {X : Type 0} (f : X → ℕ) (xs : List X) → sum_by f xs ≡ weigh f xs
weighed f [] = refl
weighed f (x ∷ xs) = sum_by-cons f x xs ∙ ap (λ n. f x + n) (weighed f xs)

module _ {X : Type 0} (R : X → X → Ordering) where
  abbrev before : X → X → Bool
  before a b = is_lt (R a b)

  -- none of these stands before it
  abbrev AllBehind : X → List X → Type 0
  AllBehind x xs = AllByRecursion (λ y. is_lt (R y x) ≡ false) xs

  abbrev Ascends : List X → Type 0
  Ascends [] = ⊤
  Ascends (x ∷ xs) = AllBehind x xs × Ascends xs

  module _ (o : IsTotalOrder R) (exact : (x y : X) → R x y ≡ Equal → x ≡ y) where
    behind_of : (r : Ordering) → is_lt r ≡ true → is_lt (ordering_reverse r) ≡ false
    behind_of Less h = refl
    behind_of Equal h = absurd cc
    behind_of Greater h = absurd cc

    asymmetric : (x y : X) → is_lt (R x y) ≡ true → is_lt (R y x) ≡ false
    asymmetric x y h = ap is_lt (o.antisymm y x) ∙ behind_of (R x y) h

    less : (r : Ordering) → is_lt r ≡ true → r ≡ Less
    less Less h = refl
    less Equal h = absurd cc
    less Greater h = absurd cc

    further : (x y z : X) → is_lt (R y x) ≡ false → is_lt (R z y) ≡ false → is_lt (R z x) ≡ false
    further x y z h k = go (R y x) refl h
      where
        go : (r : Ordering) → R y x ≡ r → is_lt r ≡ false → is_lt (R z x) ≡ false
        go Less e n = absurd cc
        go Equal e n = ap (λ w. is_lt (R z w)) (sym (exact y x e)) ∙ k
        go Greater e n = elim (cases_Bool (is_lt (R z x))) [
          | inl t ↦ (
              let xy : R x y ≡ Less = o.antisymm x y ∙ ap ordering_reverse e in
              let zy : R z y ≡ Less = o.trans z x y (less (R z x) t) xy in
              let yes : is_lt (R z y) ≡ true = ap is_lt zy in
              absurd (cc (sym yes ∙ k)))
          | inr f ↦ f
        ]

    behind_put : (x y : X) (xs : List X) → is_lt (R y x) ≡ false → AllBehind x xs → AllBehind x (put_in_order (λ a b. is_lt (R a b)) y xs)
    behind_put x y [] n h = (n, tt)
    behind_put x y (z ∷ xs) n h = elim (cases_Bool (is_lt (R y z))) [
      | inl t ↦ rw t (n, h)
      | inr f ↦ rw f (h.0, behind_put x y xs n h.1)
    ]

    behind_all : (x y : X) (xs : List X) → is_lt (R y x) ≡ false → AllBehind y xs → AllBehind x xs
    behind_all x y [] n h = tt
    behind_all x y (z ∷ xs) n h = (further x y z n h.0, behind_all x y xs n h.1)

    put_ascends : (x : X) (xs : List X) → Ascends xs → Ascends (put_in_order (λ a b. is_lt (R a b)) x xs)
    put_ascends x [] h = (tt, tt)
    put_ascends x (y ∷ xs) h = elim (cases_Bool (is_lt (R x y))) [
      | inl t ↦ rw t ((asymmetric x y t, behind_all x y xs (asymmetric x y t) h.0), h)
      | inr f ↦ rw f (behind_put y x xs f h.0, put_ascends x xs h.1)
    ]

    order_ascends : (xs : List X) → Ascends (in_order (λ a b. is_lt (R a b)) xs)
    order_ascends [] = tt
    order_ascends (x ∷ xs) = put_ascends x (in_order (λ a b. is_lt (R a b)) xs) (order_ascends xs)

    plus_swapped : (a b c : ℕ) → b + (a + c) ≡ a + (b + c)
    plus_swapped a b c = omega arith

    put_weighs : (f : X → ℕ) (x : X) (xs : List X) → weigh f (put_in_order (λ a b. is_lt (R a b)) x xs) ≡ f x + weigh f xs
    put_weighs f x [] = refl
    put_weighs f x (y ∷ xs) = elim (cases_Bool (is_lt (R x y))) [
      | inl t ↦ rw t refl
      | inr n ↦ rw n (ap (λ w. f y + w) (put_weighs f x xs) ∙ plus_swapped (f x) (f y) (weigh f xs))
    ]

    order_weighs : (f : X → ℕ) (xs : List X) → weigh f (in_order (λ a b. is_lt (R a b)) xs) ≡ weigh f xs
    order_weighs f [] = refl
    order_weighs f (x ∷ xs) = put_weighs f x (in_order (λ a b. is_lt (R a b)) xs) ∙ ap (λ w. f x + w) (order_weighs f xs)

    -- ---- lists that ascend and weigh the same are one

    -- 1 for the items that tie with it
    abbrev ties_with : X → X → ℕ
    ties_with x z = if not (is_lt (R x z)) && not (is_lt (R z x)) then 1 else 0

    tied_with_itself : (x : X) → ties_with x x ≡ 1
    tied_with_itself x = elim (cases_Bool (is_lt (R x x))) [
      | inl t ↦ absurd (cc (sym t ∙ asymmetric x x t))
      | inr f ↦ rw f refl
    ]

    neither : (r : Ordering) → is_lt r ≡ false → is_lt (ordering_reverse r) ≡ false → r ≡ Equal
    neither Less h k = absurd cc
    neither Equal h k = refl
    neither Greater h k = absurd cc

    one_item : (x y : X) → is_lt (R x y) ≡ false → is_lt (R y x) ≡ false → x ≡ y
    one_item x y h k = exact x y (neither (R x y) h (ap is_lt (sym (o.antisymm y x)) ∙ k))

    -- where it is among them, and none of them is before another, that one isn't after it
    found_behind : (x y : X) (ys : List X) → 1 ≤ weigh (ties_with x) ys → AllBehind y ys → is_lt (R x y) ≡ false
    found_behind x y [] w h = absurd (omega (arith, w))
    found_behind x y (z ∷ ys) w h = go (is_lt (R x z)) (is_lt (R z x)) refl refl (λ more. found_behind x y ys more h.1)
      where
        go : (a b : Bool) → is_lt (R x z) ≡ a → is_lt (R z x) ≡ b → (1 ≤ weigh (ties_with x) ys → is_lt (R x y) ≡ false) → is_lt (R x y) ≡ false
        go false false e k rest = ap (λ v. is_lt (R v y)) (one_item x z e k) ∙ h.0
        go true b e k rest = (let more : 1 ≤ 0 + weigh (ties_with x) ys = rw e at w in rest (omega (arith, more)))
        go false true e k rest = (let more : 1 ≤ 0 + weigh (ties_with x) ys = rw (e, k) at w in rest (omega (arith, more)))

    first_behind : (x y : X) (xs ys : List X) → Ascends (y ∷ ys) → ((f : X → ℕ) → weigh f (x ∷ xs) ≡ weigh f (y ∷ ys)) → is_lt (R x y) ≡ false
    first_behind x y xs ys h same =
        let one : 1 + weigh (ties_with x) xs ≡ weigh (ties_with x) (y ∷ ys) = ap (λ n. n + weigh (ties_with x) xs) (sym (tied_with_itself x)) ∙ same (ties_with x) in
        let irreflexive : is_lt (R y y) ≡ false = elim (cases_Bool (is_lt (R y y))) [
          | inl t ↦ absurd (cc (sym t ∙ asymmetric y y t))
          | inr f ↦ f
        ] in
        found_behind x y (y ∷ ys) (omega (arith, one)) (irreflexive, h.0)

    cancelled : (a b c : ℕ) → a + b ≡ a + c → b ≡ c
    cancelled a b c h = omega (arith, h)

    unique : (xs ys : List X) → Ascends xs → Ascends ys → ((f : X → ℕ) → weigh f xs ≡ weigh f ys) → xs ≡ ys
    unique [] [] h k same = refl
    unique [] (y ∷ ys) h k same = absurd (omega (arith, same (λ z. 1)))
    unique (x ∷ xs) [] h k same = absurd (omega (arith, same (λ z. 1)))
    unique (x ∷ xs) (y ∷ ys) h k same =
        let is : x ≡ y = one_item x y (first_behind x y xs ys k same) (first_behind y x ys xs h (λ f. sym (same f))) in
        let rest : (f : X → ℕ) → weigh f xs ≡ weigh f ys = λ f. cancelled (f x) (weigh f xs) (weigh f ys) (same f ∙ ap (λ z. f z + weigh f ys) (sym is)) in
        λ i. is i ∷ unique xs ys h.1 k.1 rest i

    -- ---- what a sort ensures

    later : (k : ℕ) → suc k + 1 ≡ suc (k + 1)
    later k = omega arith

    sorted_ascends : (xs : List X) → IsSorted R xs → Ascends xs
    sorted_ascends [] s = tt
    sorted_ascends (x ∷ []) s = (tt, tt)
    sorted_ascends (x ∷ y ∷ xs) s =
        let rest : Ascends (y ∷ xs) = sorted_ascends (y ∷ xs) (λ k d low high. subst (λ n. is_lt (R (slice_index_or (x ∷ y ∷ xs) n d) (slice_index_or (y ∷ xs) k d)) ≡ false) (later k) (s (suc k) d (omega arith) (omega (arith, high)))) in
        let first : is_lt (R y x) ≡ false = s 0 x (omega arith) (omega arith) in
        ((first, behind_all x y xs first rest.0), rest)

    -- the order as a sort requires it
    pub weak_order : IsStrictWeakOrder (λ (x y : X). is_lt (R x y))
    weak_order = record { one_way = asymmetric; chain = λ x y z h k. further z y x k h }

    -- a sorted list of the same items is the list put in order
    pub sorted_in_order : (xs ys : List X) → IsPermutation xs ys → IsSorted R ys → ys ≡ in_order (λ a b. is_lt (R a b)) xs
    sorted_in_order xs ys p s =
        unique ys (in_order (λ a b. is_lt (R a b)) xs) (sorted_ascends ys s) (order_ascends xs)
        (λ f. sym (weighed f ys) ∙ sum_by-IsPermutation f xs ys p ∙ weighed f xs ∙ sym (order_weighs f xs))

    -- lists of the same items are one list when they are put in order
    pub order_alike : (xs ys : List X) → IsPermutation xs ys → in_order (λ a b. is_lt (R a b)) ys ≡ in_order (λ a b. is_lt (R a b)) xs
    order_alike xs ys p =
        unique (in_order (λ a b. is_lt (R a b)) ys) (in_order (λ a b. is_lt (R a b)) xs) (order_ascends ys) (order_ascends xs)
        (λ f. order_weighs f ys ∙ sym (weighed f ys) ∙ sum_by-IsPermutation f xs ys p ∙ weighed f xs ∙ sym (order_weighs f xs))
