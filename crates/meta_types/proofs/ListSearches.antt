-- What a search finds in a list, and in a filter of it.
use Rattle.std.proofs.Common.{◌≡◌, zero, suc, ◌<◌, ◌≤◌, Bool, true, false, cond, List, [], ◌∷◌, length, refl, sym, ap, ◌∙◌, arith, subst, ◌⊎◌, inl, inr}
use Rattle.std.specs.Prelude.{All, AllPairs, Contains, filter, find, Option, Some, None, is_some, unwrap_or, ◌||◌}
use Rattle.std.specs.List.{list_any}
use Rattle.std.proofs.lemmas.Bool.{cases_Bool, false≢true, both_ways}
use Rattle.std.proofs.lemmas.List.Elements.{All-contains, All-weaker, All-contains_itself}
use Rattle.meta_types.specs.Keys.{Key, is_key, row_at}
use Rattle.meta_types.proofs.Members.{here, later, first_or_later, none_in_nothing, from_filter}

-- ---- options

-- a value is read back from its option
pub some_is : {X : Type 0} (x y : X) → Some x ≡ Some y → x ≡ y
some_is x y e = ap (λ (o : Option _). unwrap_or o x) e

-- no value is none
pub no_none : {X : Type 0} {G : Type 0} (x : X) → None ≡ Some x → G
no_none x e = absurd (false≢true (ap (λ (o : Option _). is_some o) e))

-- an option has a value or none
pub none_or_some : {X : Type 0} (o : Option X) → (o ≡ None) ⊎ ((x : X) × (o ≡ Some x))
none_or_some None = inl refl
none_or_some (Some x) = inr (x, refl)

-- ---- one of three

-- the first of three tests is enough
pub first_of : (a b c : Bool) → a ≡ true → (a || b || c) ≡ true
first_of a b c e = rw e refl

-- and so is the last
pub third_of : (a b c : Bool) → c ≡ true → (a || b || c) ≡ true
third_of true b c e = refl
third_of false true c e = refl
third_of false false c e = e

-- where one of three tests passes, it is the first, the second or the last
pub one_of_three : (a b c : Bool) → (a || b || c) ≡ true → (a ≡ true) ⊎ ((b ≡ true) ⊎ (c ≡ true))
one_of_three true b c h = inl refl
one_of_three false true c h = inr (inl refl)
one_of_three false false c h = inr (inr h)

-- ---- what is found

module _ {X : Type 0} (q : X → Bool) where
  -- what is found stands in the list and passes
  pub found_is : (xs : List X) (x : X) → find q xs ≡ Some x → Contains xs x × (q x ≡ true)
  found_is [] x e = no_none x e
  found_is (y ∷ ys) x e = elim (cases_Bool (q y)) [
    | inl t ↦ (
        let same : y ≡ x = some_is y x (rw t at e) in
        (subst (Contains (y ∷ ys)) same (here y ys), ap q (sym same) ∙ t))
    | inr f ↦ (let rest = found_is ys x (rw f at e) in (later y ys x rest.0, rest.1))
  ]

  -- where something passes, something is found
  pub finds : (xs : List X) → list_any q xs ≡ true → (x : X) × (find q xs ≡ Some x)
  finds [] h = absurd (false≢true h)
  finds (y ∷ ys) h = elim (cases_Bool (q y)) [
    | inl t ↦ (y, rw t refl)
    | inr f ↦ (let rest = finds ys (rw f at h) in (rest.0, rw f rest.1))
  ]

  -- and is found again among those that a test keeps, where it keeps what was found
  pub found_again : (p : X → Bool) (xs : List X) (x : X) → find q xs ≡ Some x → p x ≡ true → find q (filter p xs) ≡ Some x
  found_again p [] x e h = e
  found_again p (y ∷ ys) x e h = elim (cases_Bool (q y)) [
    | inl t ↦ (
        let same : y ≡ x = some_is y x (rw t at e) in
        rw (ap p same ∙ h) (rw t (ap (λ (z : X). Some z) same)))
    | inr f ↦ (
        let rest = found_again p ys x (rw f at e) h in
        elim (cases_Bool (p y)) [
          | inl u ↦ rw u (rw f rest)
          | inr u ↦ rw u rest
        ])
  ]

-- the row of a key is the first that has it
pub row_is_found : {Row : Type 0} (key_of : Row → Key) (key : Key) (rows : List Row) → row_at key_of key rows ≡ find (λ row. is_key key (key_of row)) rows
row_is_found key_of key [] = refl
row_is_found key_of key (row ∷ rows) = ap (cond (is_key key (key_of row)) (Some row)) (row_is_found key_of key rows)

-- ---- what holds of a filter

-- what holds of each row that stays holds of all that are left
pub all_left : {X : Type 0} (Q : X → Type 0) (p : X → Bool) (xs : List X) → ((x : X) → Contains xs x → p x ≡ true → Q x) → All Q (filter p xs)
all_left Q p xs each = All-weaker (Contains (filter p xs)) Q (λ x c. let both = from_filter p xs x c in each x both.0 both.1) (filter p xs) (All-contains_itself (filter p xs))

-- ---- pairs

module _ {X : Type 0} (R : X → X → Type 0) where
  -- the first is before all later ones, and these are in order
  pub pairs_head : (x : X) (xs : List X) → AllPairs R (x ∷ xs) → All (R x) xs
  pairs_head x xs h k d within = h zero (suc k) d (omega arith) (omega arith)

  -- what holds of each two items of a list holds of each two without its first item
  pub pairs_tail : (x : X) (xs : List X) → AllPairs R (x ∷ xs) → AllPairs R xs
  pairs_tail x xs h i j d lt within = h (suc i) (suc j) d (omega arith) (omega arith)

  -- two of a list in order, neither before the other, are one
  pub one_item : (xs : List X) → AllPairs R xs → (a b : X) → Contains xs a → Contains xs b → (R a b → ⊥) → (R b a → ⊥) → a ≡ b
  one_item [] h a b ca cb n m = none_in_nothing a ca
  one_item (x ∷ xs) h a b ca cb n m = elim (first_or_later x xs a ca) [
    | inl here ↦ elim (first_or_later x xs b cb) [
      | inl there ↦ sym here ∙ there
      | inr more ↦ absurd (n (subst (λ (y : X). R y b) here (All-contains (R x) xs b (pairs_head x xs h) more)))
    ]
    | inr behind ↦ elim (first_or_later x xs b cb) [
      | inl there ↦ absurd (m (subst (λ (y : X). R y a) there (All-contains (R x) xs a (pairs_head x xs h) behind)))
      | inr more ↦ one_item xs (pairs_tail x xs h) a b behind more n m
    ]
  ]

-- ---- lengths

module _ {X : Type 0} (p q : X → Bool) (weaker : (x : X) → p x ≡ true → q x ≡ true) where
  -- a weaker test keeps as many
  pub no_more : (xs : List X) → length (filter p xs) ≤ length (filter q xs)
  no_more [] = omega arith
  no_more (x ∷ xs) = pick (p x) (q x) (weaker x) (no_more xs)
    where
      pick : (a b : Bool) → (a ≡ true → b ≡ true) → length (filter p xs) ≤ length (filter q xs) → length (cond a (x ∷ filter p xs) (filter p xs)) ≤ length (cond b (x ∷ filter q xs) (filter q xs))
      pick true true f h = omega arith
      pick true false f h = absurd (both_ways false refl (f refl))
      pick false true f h = omega arith
      pick false false f h = h

  -- and more where it keeps one that the other doesn't
  pub fewer : (xs : List X) (y : X) → Contains xs y → p y ≡ false → q y ≡ true → length (filter p xs) < length (filter q xs)
  fewer [] y c n t = none_in_nothing y c
  fewer (x ∷ xs) y c n t = elim (first_or_later x xs y c) [
    | inl same ↦ rw (ap p same ∙ n, ap q same ∙ t) (let h = no_more xs in omega arith)
    | inr more ↦ pick (p x) (q x) (weaker x) (fewer xs y more n t)
  ]
    where
      pick : (a b : Bool) → (a ≡ true → b ≡ true) → length (filter p xs) < length (filter q xs) → length (cond a (x ∷ filter p xs) (filter p xs)) < length (cond b (x ∷ filter q xs) (filter q xs))
      pick true true f h = omega arith
      pick true false f h = absurd (both_ways false refl (f refl))
      pick false true f h = omega arith
      pick false false f h = h
