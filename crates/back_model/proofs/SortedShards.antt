-- A sort leaves shards in their places.
use Rattle.std.proofs.Common.{◌≡◌, ◌<◌, ◌+◌, ℕ, suc, Bool, false, Option, List, [], ◌∷◌, map, length, get_or, refl, sym, ◌∙◌, ap, subst, arith, inl, inr, Bor}
use Rattle.std.specs.Prelude.{Some, None}
use Rattle.std.specs.List.{AllByRecursion}
use Rattle.std.specs.List.Sorted.{IsSortedBy, IsPermutation}
use Rattle.std.specs.declared.cmp.Ordering.{Ordering}
use Rattle.std.specs.declared.cmp.Ordering.TheVariants.{Less, Equal, Greater}
use Rattle.std.specs.Ordering.{is_eq, is_lt, eq_by_cmp, ordering_reverse}
use Rattle.std.specs.Cmp.{IsStrictWeakOrder}
use Rattle.std.specs.Cmp.Lexicographic.{nat_list_cmp_total}
use Rattle.std.proofs.lemmas.Bool.{cases_Bool}
use Rattle.std.proofs.lemmas.List.Elements.{All-from_recursion, recursion_from_All}
use Rattle.std.proofs.lemmas.List.Sorted.{All-permutation, IsPermutation-map, IsPermutation-sym, ranks_by}
use Rattle.std.proofs.lemmas.Map.Keys.{IsDistinct-head, IsDistinct-IsPermutation}
use Rattle.meta_types.specs.Text.{Text, text_cmp}
use Rattle.back_model.specs.Shown.{Shard, AreApart, shard_at}
use Rattle.back_model.specs.Settled.{in_place, snapshotters_of, AreOnce, PutsInOrder}
use Rattle.back_model.proofs.ShardPlaces.{none_apart, apart_first, behind}
use Rattle.back_model.proofs.ShardLookups.{one_name, found_first, passed, at_first, some_same, one_list}
use Rattle.back_model.proofs.PlacedShards.{at_placed, placed_apart, once_rest}
use Rattle.back_model.proofs.SettledShards.{ties_flip}

-- ---- what is found among the same shards in another order

abbrev Found : List Shard → Shard → Type 0
Found shards s = shard_at s.snapshotter shards ≡ Some s

found_all : (shards : List Shard) → AreOnce (snapshotters_of shards)
    → AllByRecursion (Found shards) shards
found_all [] once = tt
found_all (x ∷ xs) once = (
  at_first x xs,
  later xs
      (IsDistinct-head (eq_by_cmp text_cmp) x.snapshotter (snapshotters_of xs) once)
      (found_all xs (once_rest x xs once)),
)
  where
    later : (ys : List Shard)
        → AllByRecursion (λ y. eq_by_cmp text_cmp x.snapshotter y ≡ false) (snapshotters_of ys)
        → AllByRecursion (Found xs) ys → AllByRecursion (Found (x ∷ xs)) ys
    later [] differ found = tt
    later (y ∷ ys) differ found = (
      passed y.snapshotter x xs (ties_flip y.snapshotter x.snapshotter ∙ differ.0) ∙ found.0,
      later ys differ.1 found.1,
    )

-- a shard that is found has what all of them have
of_found : (P : Shard → Type 0) (name : Text) (shards : List Shard) → AllByRecursion P shards
    → (s : Shard) → shard_at name shards ≡ Some s → P s × (name ≡ s.snapshotter)
of_found P name [] all s found = absurd (cc found)
of_found P name (x ∷ xs) all s found =
    elim (cases_Bool (is_eq (text_cmp name x.snapshotter))) [
      | inl t ↦ (
          let one : x ≡ s = some_same x s (sym (found_first name x xs t) ∙ found) in (
            subst P one all.0,
            one_name name x.snapshotter t ∙ ap (λ (y : Shard). y.snapshotter) one,
          ))
      | inr other ↦ of_found P name xs all.1 s (sym (passed name x xs other) ∙ found)
    ]

still_found : (xs ys : List Shard) → AreOnce (snapshotters_of xs) → IsPermutation xs ys
    → (name : Text) (s : Shard) → shard_at name ys ≡ Some s → shard_at name xs ≡ Some s
still_found xs ys once p name s found =
    let got = of_found (Found xs) name ys
    (recursion_from_All (Found xs) ys (All-permutation (Found xs) xs ys p
    (All-from_recursion (Found xs) xs (found_all xs once)))) s found in
    ap (λ (t : Text). shard_at t xs) got.1 ∙ got.0

one_answer : (a b : Option Shard) → ((s : Shard) → a ≡ Some s → b ≡ Some s)
    → ((s : Shard) → b ≡ Some s → a ≡ Some s) → a ≡ b
one_answer None None there back = refl
one_answer None (Some s) there back = back s refl
one_answer (Some s) b there back = sym (there s refl)

once_still : (xs ys : List Shard) → IsPermutation xs ys → AreOnce (snapshotters_of xs)
    → AreOnce (snapshotters_of ys)
once_still xs ys p once =
    IsDistinct-IsPermutation (eq_by_cmp text_cmp) ties_flip
    (snapshotters_of xs) (snapshotters_of ys) (IsPermutation-map (λ s. s.snapshotter) xs ys p) once

found_alike : (xs ys : List Shard) → AreOnce (snapshotters_of xs) → IsPermutation xs ys
    → (name : Text) → shard_at name ys ≡ shard_at name xs
found_alike xs ys once p name =
    one_answer (shard_at name ys) (shard_at name xs) (still_found xs ys once p name)
    (still_found ys xs (once_still xs ys p once) (IsPermutation-sym xs ys p) name)

-- ---- what a sort leaves

-- of two names that differ, the one that isn't greater is less
less_of : (a b : Text) → is_lt (text_cmp b a) ≡ false → is_eq (text_cmp a b) ≡ false
    → text_cmp a b ≡ Less
less_of a b low differ = go (text_cmp a b) refl
  where
    go : (r : Ordering) → text_cmp a b ≡ r → r ≡ Less
    go Less is = refl
    go Equal is = absurd (cc (sym (ap is_eq is) ∙ differ))
    go Greater is =
        let over : text_cmp b a ≡ Less = nat_list_cmp_total.antisymm b a ∙ ap ordering_reverse is in
        absurd (cc (sym (ap is_lt over) ∙ low))

module _ {X : Type 0} (f : X → Shard) where
  -- whether an item's name is less than another's
  abbrev pub is_less : X → X → Bool
  is_less a b = is_lt (text_cmp (f a).snapshotter (f b).snapshotter)

  pub weak_less : IsStrictWeakOrder is_less
  weak_less = ranks_by nat_list_cmp_total (λ (x : X). (f x).snapshotter)

  sorted_apart : (xs : List X) → IsSortedBy is_less xs → AreOnce (snapshotters_of (map f xs))
      → AreApart (map f xs)
  sorted_apart [] sorted once = none_apart
  sorted_apart (x ∷ []) sorted once = apart_first (f x).snapshotter [] tt none_apart
  sorted_apart (x ∷ y ∷ ys) sorted once =
      let rest : AreApart (map f (y ∷ ys)) =
      sorted_apart (y ∷ ys) (λ k d low lt. later k d lt)
      (once_rest (f x) (map f (y ∷ ys)) once) in
      let less : text_cmp (f x).snapshotter (f y).snapshotter ≡ Less =
      less_of (f x).snapshotter (f y).snapshotter (sorted 0 x (omega arith) (omega arith))
      (IsDistinct-head (eq_by_cmp text_cmp) (f x).snapshotter (snapshotters_of (map f (y ∷ ys))) once).0 in
      apart_first (f x).snapshotter (snapshotters_of (map f (y ∷ ys)))
      (behind (f x).snapshotter (f y) (map f ys) less rest) rest
    where
      later : (k : ℕ) (d : X) → k + 1 < length (y ∷ ys)
          → is_less (get_or (y ∷ ys) (k + 1) d) (get_or (y ∷ ys) k d) ≡ false
      later k d lt =
          let next : suc k + 1 ≡ suc (k + 1) = omega arith in
          let more : suc k + 1 < suc (length (y ∷ ys)) = omega (arith, lt) in
          let at : is_less (get_or (x ∷ y ∷ ys) (suc k + 1) d) (get_or (x ∷ y ∷ ys) (suc k) d) ≡ false
          = sorted (suc k) d (omega arith) more in
          ap (λ (n : ℕ). is_less (get_or (x ∷ y ∷ ys) n d) (get_or (y ∷ ys) k d)) (sym next) ∙ at

  -- sorted, they stand in their places
  pub sorted_in_order : (old new : List X) → AreOnce (snapshotters_of (map f old))
      → IsPermutation old new → IsSortedBy is_less new → PutsInOrder (map f old) (map f new)
  sorted_in_order old new once p sorted =
      let moved : IsPermutation (map f old) (map f new) = IsPermutation-map f old new p in
      let apart : AreApart (map f new) =
      sorted_apart new sorted (once_still (map f old) (map f new) moved once) in
      record {
        apart = apart;
        same = one_list (map f new) (in_place (map f old)) apart (placed_apart (map f old))
            (λ n. found_alike (map f old) (map f new) once moved n ∙ sym (at_placed n (map f old)));
      }

-- ---- shards that are lent

-- what is shown of a lent item
abbrev pub of_lent : {Y : Type 0} → (Y → Shard) → Bor Y → Shard
of_lent f lent = f lent.now

pub shown_lent : {Y : Type 0} (f : Y → Shard) (list : List (Bor Y))
    → map f (map (λ lent. lent.now) list) ≡ map (of_lent f) list
shown_lent f [] = refl
shown_lent f (lent ∷ list) = ap (λ (l : List Shard). f lent.now ∷ l) (shown_lent f list)
