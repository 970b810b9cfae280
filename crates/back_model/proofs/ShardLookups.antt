-- Shards that are found: lists in order that answer alike are one list.
use Rattle.std.proofs.Common.{◌≡◌, Bool, true, false, cond, Option, List, [], ◌∷◌, refl, sym, ◌∙◌, ap, subst, inl, inr}
use Rattle.std.specs.Prelude.{Some, None}
use Rattle.std.specs.Option.{option_map_or}
use Rattle.std.specs.declared.cmp.Ordering.{Ordering}
use Rattle.std.specs.declared.cmp.Ordering.TheVariants.{Less, Equal, Greater}
use Rattle.std.specs.Ordering.{is_eq, match_ordering, ordering_reverse}
use Rattle.std.specs.Cmp.Lexicographic.{nat_list_cmp_total}
use Rattle.std.proofs.lemmas.Bool.{cases_Bool}
use Rattle.std.proofs.lemmas.Cmp.{tied_itself}
use Rattle.meta_types.specs.Text.{Text, text_cmp}
use Rattle.back_model.specs.Shown.{Shard, AreApart, shard_at, put_shard}
use Rattle.back_model.proofs.ShardPlaces.{none_at, apart_head, apart_rest, apart_put, at_put, same_name}

equal : (r : Ordering) → is_eq r ≡ true → r ≡ Equal
equal Less h = absurd cc
equal Equal h = refl
equal Greater h = absurd cc

-- names that tie are one
pub one_name : (a b : Text) → is_eq (text_cmp a b) ≡ true → a ≡ b
one_name a b h = same_name a b (equal (text_cmp a b) h)

module _ (name : Text) (s : Shard) (shards : List Shard) where
  -- a shard of the name is found at once
  pub found_first : is_eq (text_cmp name s.snapshotter) ≡ true → shard_at name (s ∷ shards) ≡ Some s
  found_first h = ap (λ (b : Bool). cond b (Some s) (shard_at name shards)) h

  -- a shard of another name is passed
  pub passed : is_eq (text_cmp name s.snapshotter) ≡ false
      → shard_at name (s ∷ shards) ≡ shard_at name shards
  passed h = ap (λ (b : Bool). cond b (Some s) (shard_at name shards)) h

-- the first shard is found by its name
pub at_first : (s : Shard) (shards : List Shard) → shard_at s.snapshotter (s ∷ shards) ≡ Some s
at_first s shards =
    found_first s.snapshotter s shards (ap is_eq (tied_itself nat_list_cmp_total s.snapshotter))

module _ (x : Shard) (name : Text) where
  -- a shard that is put is found by its name
  pub at_own : is_eq (text_cmp name x.snapshotter) ≡ true → (shards : List Shard)
      → shard_at name (put_shard x shards) ≡ Some x
  at_own h shards =
      ap (λ (t : Text). shard_at t (put_shard x shards)) (one_name name x.snapshotter h)
      ∙ at_put x shards

  -- it changes what is found by no other name
  pub at_other : is_eq (text_cmp name x.snapshotter) ≡ false → (shards : List Shard)
      → shard_at name (put_shard x shards) ≡ shard_at name shards
  at_other other [] = passed name x [] other
  at_other other (s ∷ shards) =
      go (text_cmp x.snapshotter s.snapshotter) refl (at_other other shards)
    where
      go : (r : Ordering) → text_cmp x.snapshotter s.snapshotter ≡ r
          → shard_at name (put_shard x shards) ≡ shard_at name shards
          → shard_at name
          (match_ordering r (x ∷ s ∷ shards) (x ∷ shards) (s ∷ put_shard x shards))
          ≡ shard_at name (s ∷ shards)
      go Less is rest = passed name x (s ∷ shards) other
      go Equal is rest =
          passed name x shards other ∙ sym (passed name s shards
          (subst (λ (t : Text). is_eq (text_cmp name t) ≡ false)
          (same_name x.snapshotter s.snapshotter is) other))
      go Greater is rest =
          ap (λ (found : Option Shard). cond (is_eq (text_cmp name s.snapshotter)) (Some s) found)
          rest

pub some_same : (x y : Shard) → Some x ≡ Some y → x ≡ y
some_same x y e = ap (λ (o : Option Shard). option_map_or (λ s. s) o x) e

-- no shard behind the first one has its name
none_after : (x : Shard) (xs : List Shard) → AreApart (x ∷ xs)
    → shard_at x.snapshotter xs ≡ None
none_after x [] p = refl
none_after x (y ∷ ys) p =
    none_at x.snapshotter y ys (apart_head x (y ∷ ys) p).0 (apart_rest x (y ∷ ys) p)

-- lists in order in which each name finds the same are one list
pub one_list : (xs ys : List Shard) → AreApart xs → AreApart ys
    → ((n : Text) → shard_at n xs ≡ shard_at n ys) → xs ≡ ys
one_list [] [] p q h = refl
one_list [] (y ∷ ys) p q h = absurd (cc (h y.snapshotter ∙ at_first y ys))
one_list (x ∷ xs) [] p q h = absurd (cc (sym (h x.snapshotter) ∙ at_first x xs))
one_list (x ∷ xs) (y ∷ ys) p q h =
    go (text_cmp x.snapshotter y.snapshotter) refl
    (one_list xs ys (apart_rest x xs p) (apart_rest y ys q))
  where
    go : (r : Ordering) → text_cmp x.snapshotter y.snapshotter ≡ r
        → (((n : Text) → shard_at n xs ≡ shard_at n ys) → xs ≡ ys) → x ∷ xs ≡ y ∷ ys
    go Less is rest =
        absurd (cc (sym (at_first x xs) ∙ h x.snapshotter ∙ none_at x.snapshotter y ys is q))
    go Greater is rest =
        let less : text_cmp y.snapshotter x.snapshotter ≡ Less =
        nat_list_cmp_total.antisymm y.snapshotter x.snapshotter ∙ ap ordering_reverse is in
        absurd (cc (sym (at_first y ys) ∙ sym (h y.snapshotter) ∙ none_at y.snapshotter x xs less p))
    go Equal is rest =
        let name : x.snapshotter ≡ y.snapshotter = same_name x.snapshotter y.snapshotter is in
        let one : x ≡ y = some_same x y (sym (at_first x xs) ∙ h x.snapshotter
        ∙ found_first x.snapshotter y ys (ap is_eq is)) in
        let others : (n : Text) → shard_at n xs ≡ shard_at n ys =
        λ n. elim (cases_Bool (is_eq (text_cmp n x.snapshotter))) [
          | inl t ↦ (
              let own : n ≡ x.snapshotter = one_name n x.snapshotter t in
              ap (λ (m : Text). shard_at m xs) own ∙ none_after x xs p ∙ sym (none_after y ys q)
              ∙ sym (ap (λ (m : Text). shard_at m ys) (own ∙ name)))
          | inr f ↦ sym (passed n x xs f) ∙ h n ∙ passed n y ys
              (subst (λ (t : Text). is_eq (text_cmp n t) ≡ false) name f)
        ] in
        λ i. one i ∷ rest others i

-- two shards of different names may be put in either order
pub put_both : (x y : Shard) (shards : List Shard) → AreApart shards
    → is_eq (text_cmp x.snapshotter y.snapshotter) ≡ false
    → put_shard x (put_shard y shards) ≡ put_shard y (put_shard x shards)
put_both x y shards apart differ =
    one_list (put_shard x (put_shard y shards)) (put_shard y (put_shard x shards))
    (apart_put x (put_shard y shards) (apart_put y shards apart))
    (apart_put y (put_shard x shards) (apart_put x shards apart))
    (λ n. elim (cases_Bool (is_eq (text_cmp n x.snapshotter))) [
      | inl t ↦ at_own x n t (put_shard y shards) ∙ sym (at_other y n
          (subst (λ (m : Text). is_eq (text_cmp m y.snapshotter) ≡ false)
          (sym (one_name n x.snapshotter t)) differ) (put_shard x shards) ∙ at_own x n t shards)
      | inr f ↦ at_other x n f (put_shard y shards) ∙ either n f
    ])
  where
    either : (n : Text) → is_eq (text_cmp n x.snapshotter) ≡ false
        → shard_at n (put_shard y shards) ≡ shard_at n (put_shard y (put_shard x shards))
    either n f = elim (cases_Bool (is_eq (text_cmp n y.snapshotter))) [
      | inl u ↦ at_own y n u shards ∙ sym (at_own y n u (put_shard x shards))
      | inr g ↦ at_other y n g shards ∙ sym (at_other x n f shards)
          ∙ sym (at_other y n g (put_shard x shards))
    ]
