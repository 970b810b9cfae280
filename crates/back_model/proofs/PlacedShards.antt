-- Shards of which each is put in its place.
use Rattle.std.proofs.Common.{◌≡◌, ◌<◌, ◌+◌, ℕ, suc, zero, false, List, [], ◌∷◌, ◌++◌, map, length, get_or, refl, sym, ◌∙◌, ap, arith, inl, inr}
use Rattle.std.specs.Prelude.{Some, None, slice_set}
use Rattle.std.specs.List.{AllByRecursion}
use Rattle.std.specs.declared.cmp.Ordering.{Ordering}
use Rattle.std.specs.declared.cmp.Ordering.TheVariants.{Less, Equal, Greater}
use Rattle.std.specs.Ordering.{is_eq, eq_by_cmp, match_ordering}
use Rattle.std.proofs.lemmas.Bool.{cases_Bool}
use Rattle.std.proofs.lemmas.Map.Keys.{IsDistinct-head, IsDistinct-tail}
use Rattle.meta_types.specs.Text.{Text, text_cmp}
use Rattle.back_model.specs.Shown.{Shard, AreApart, shard_at, put_shard, all_failures}
use Rattle.back_model.specs.Settled.{in_place, snapshotters_of, AreOnce}
use Rattle.back_model.proofs.ShardPlaces.{none_apart, apart_put, put_put}
use Rattle.back_model.proofs.ShardLookups.{one_name, found_first, passed, at_first, at_own, at_other, one_list, put_both}

-- each name finds the same as before
pub at_placed : (name : Text) (shards : List Shard)
    → shard_at name (in_place shards) ≡ shard_at name shards
at_placed name [] = refl
at_placed name (s ∷ shards) = elim (cases_Bool (is_eq (text_cmp name s.snapshotter))) [
  | inl t ↦ at_own s name t (in_place shards) ∙ sym (found_first name s shards t)
  | inr f ↦ at_other s name f (in_place shards) ∙ at_placed name shards
      ∙ sym (passed name s shards f)
]

pub placed_apart : (shards : List Shard) → AreApart (in_place shards)
placed_apart [] = none_apart
placed_apart (s ∷ shards) = apart_put s (in_place shards) (placed_apart shards)

-- shards in order stay where they are
pub placed_same : (shards : List Shard) → AreApart shards → in_place shards ≡ shards
placed_same shards apart =
    one_list (in_place shards) shards (placed_apart shards) apart (λ n. at_placed n shards)

-- ---- names that stand once

-- no shard is found by a name that is none of theirs
pub none_among : (name : Text) (shards : List Shard)
    → AllByRecursion (λ y. eq_by_cmp text_cmp name y ≡ false) (snapshotters_of shards)
    → shard_at name shards ≡ None
none_among name [] h = refl
none_among name (s ∷ shards) h = passed name s shards h.0 ∙ none_among name shards h.1

pub all_differ : (name : Text) (shards : List Shard) → shard_at name shards ≡ None
    → AllByRecursion (λ y. eq_by_cmp text_cmp name y ≡ false) (snapshotters_of shards)
all_differ name [] h = tt
all_differ name (s ∷ shards) h = elim (cases_Bool (is_eq (text_cmp name s.snapshotter))) [
  | inl t ↦ absurd (cc (sym (found_first name s shards t) ∙ h))
  | inr f ↦ (f, all_differ name shards (sym (passed name s shards f) ∙ h))
]

module _ (s : Shard) (shards : List Shard) (once : AreOnce (snapshotters_of (s ∷ shards))) where
  -- the first one's name is none of the others'
  pub once_first : shard_at s.snapshotter shards ≡ None
  once_first =
      none_among s.snapshotter shards
      (IsDistinct-head (eq_by_cmp text_cmp) s.snapshotter (snapshotters_of shards) once)

  pub once_rest : AreOnce (snapshotters_of shards)
  once_rest = IsDistinct-tail (eq_by_cmp text_cmp) s.snapshotter (snapshotters_of shards) once

put_more : (x : Shard) (shards : List Shard) → shard_at x.snapshotter shards ≡ None
    → length (put_shard x shards) ≡ suc (length shards)
put_more x [] gone = refl
put_more x (s ∷ shards) gone =
    go (text_cmp x.snapshotter s.snapshotter) refl (λ h. put_more x shards h)
  where
    go : (r : Ordering) → text_cmp x.snapshotter s.snapshotter ≡ r
        → (shard_at x.snapshotter shards ≡ None
        → length (put_shard x shards) ≡ suc (length shards))
        → length (match_ordering r (x ∷ s ∷ shards) (x ∷ shards) (s ∷ put_shard x shards))
        ≡ suc (suc (length shards))
    go Less is rest = refl
    go Equal is rest =
        absurd (cc (sym (found_first x.snapshotter s shards (ap is_eq is)) ∙ gone))
    go Greater is rest =
        ap suc (rest (sym (passed x.snapshotter s shards (ap is_eq is)) ∙ gone))

-- none is lost
pub count_placed : (shards : List Shard) → AreOnce (snapshotters_of shards)
    → length (in_place shards) ≡ length shards
count_placed [] once = refl
count_placed (s ∷ shards) once =
    put_more s (in_place shards) (at_placed s.snapshotter shards ∙ once_first s shards once)
    ∙ ap suc (count_placed shards (once_rest s shards once))

-- where none has failed, none has failed in its place
pub failures_put : (x : Shard) → x.failures ≡ 0 → (shards : List Shard) → all_failures shards ≡ 0
    → all_failures (put_shard x shards) ≡ 0
failures_put x none [] h = (let sum : x.failures + 0 ≡ 0 = omega (arith, none) in sum)
failures_put x none (s ∷ shards) h =
    let sum : s.failures + all_failures shards ≡ 0 = h in
    let rest : all_failures shards ≡ 0 = omega (arith, sum) in
    go (text_cmp x.snapshotter s.snapshotter) sum (failures_put x none shards rest)
  where
    go : (r : Ordering) → s.failures + all_failures shards ≡ 0
        → all_failures (put_shard x shards) ≡ 0
        → all_failures
        (match_ordering r (x ∷ s ∷ shards) (x ∷ shards) (s ∷ put_shard x shards)) ≡ 0
    go Less sum rest =
        (let all : x.failures + (s.failures + all_failures shards) ≡ 0 =
        omega (arith, sum, none) in all)
    go Equal sum rest =
        (let all : x.failures + all_failures shards ≡ 0 = omega (arith, sum, none) in all)
    go Greater sum rest =
        (let all : s.failures + all_failures (put_shard x shards) ≡ 0 =
        omega (arith, sum, rest) in all)

-- ---- items that are shown as shards

module _ {X : Type 0} (f : X → Shard) where
  past_first : (x y : X) (xs : List X) → AreOnce (snapshotters_of (map f (x ∷ xs)))
      → shard_at (f y).snapshotter (map f xs) ≡ Some (f y)
      → shard_at (f y).snapshotter (f x ∷ map f xs) ≡ Some (f y)
  past_first x y xs once found =
      elim (cases_Bool (is_eq (text_cmp (f y).snapshotter (f x).snapshotter))) [
        | inl t ↦ absurd (cc (sym found ∙ ap (λ (n : Text). shard_at n (map f xs))
            (one_name (f y).snapshotter (f x).snapshotter t) ∙ once_first (f x) (map f xs) once))
        | inr other ↦ passed (f y).snapshotter (f x) (map f xs) other ∙ found
      ]

  -- the item at a place is found by its name
  pub found_item : (xs : List X) (i : ℕ) (d : X) → i < length xs
      → AreOnce (snapshotters_of (map f xs))
      → shard_at (f (get_or xs i d)).snapshotter (map f xs) ≡ Some (f (get_or xs i d))
  found_item [] i d lt once = absurd (omega (arith, lt))
  found_item (x ∷ xs) zero d lt once = at_first (f x) (map f xs)
  found_item (x ∷ xs) (suc i) d lt once =
      past_first x (get_or xs i d) xs once
      (found_item xs i d (omega (arith, lt)) (once_rest (f x) (map f xs) once))

  module _ (x : X) where
    -- one more item, behind the others, is put in its place
    pub push_placed : (xs : List X) → shard_at (f x).snapshotter (map f xs) ≡ None
        → in_place (map f (xs ++ x ∷ [])) ≡ put_shard (f x) (in_place (map f xs))
    push_placed [] gone = refl
    push_placed (y ∷ ys) gone =
        elim (cases_Bool (is_eq (text_cmp (f x).snapshotter (f y).snapshotter))) [
          | inl t ↦ absurd (cc (sym (found_first (f x).snapshotter (f y) (map f ys) t) ∙ gone))
          | inr other ↦ ap (put_shard (f y)) (push_placed ys
              (sym (passed (f x).snapshotter (f y) (map f ys) other) ∙ gone))
              ∙ sym (put_both (f x) (f y) (in_place (map f ys)) (placed_apart (map f ys)) other)
        ]

    -- an item of the same name is replaced
    pub set_placed : (xs : List X) (i : ℕ) → i < length xs
        → ((d : X) → (f (get_or xs i d)).snapshotter ≡ (f x).snapshotter)
        → AreOnce (snapshotters_of (map f xs))
        → in_place (map f (slice_set xs i x)) ≡ put_shard (f x) (in_place (map f xs))
    set_placed [] i lt same once = absurd (omega (arith, lt))
    set_placed (y ∷ ys) zero lt same once =
        sym (put_put (f y) (f x) (sym (same x)) (in_place (map f ys)))
    set_placed (y ∷ ys) (suc i) lt same once =
        elim (cases_Bool (is_eq (text_cmp (f x).snapshotter (f y).snapshotter))) [
          | inl t ↦ (
              let rest : AreOnce (snapshotters_of (map f ys)) = once_rest (f y) (map f ys) once in
              absurd (cc (sym (found_item ys i x (omega (arith, lt)) rest)
              ∙ ap (λ (n : Text). shard_at n (map f ys))
              (same x ∙ one_name (f x).snapshotter (f y).snapshotter t)
              ∙ once_first (f y) (map f ys) once)))
          | inr other ↦ ap (put_shard (f y)) (set_placed ys i (omega (arith, lt)) same
              (once_rest (f y) (map f ys) once))
              ∙ sym (put_both (f x) (f y) (in_place (map f ys)) (placed_apart (map f ys)) other)
        ]

  -- so an item that has the name is what is found in its place
  pub found_named : (name : Text) (xs : List X) (i : ℕ) (d : X) → i < length xs
      → (f (get_or xs i d)).snapshotter ≡ name → AreOnce (snapshotters_of (map f xs))
      → shard_at name (in_place (map f xs)) ≡ Some (f (get_or xs i d))
  found_named name xs i d lt same once =
      at_placed name (map f xs) ∙ ap (λ (n : Text). shard_at n (map f xs)) (sym same)
      ∙ found_item xs i d lt once
