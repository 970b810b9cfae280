-- The settled shards, and the new ones behind them.
use Rattle.std.proofs.Common.{◌≡◌, ◌<◌, ◌≤◌, ◌+◌, ℕ, suc, zero, true, false, cond, Bool, Option, List, [], ◌∷◌, ◌++◌, map, length, get_or, take, drop, refl, sym, ◌∙◌, ap, subst, arith, inl, inr}
use Rattle.std.specs.Prelude.{Some, None, Ok, Err, IfSome, IfNone, slice_get, slice_set}
use Rattle.std.specs.BTreeMap.{is_at, insert_entry}
use Rattle.std.specs.List.{AllByRecursion}
use Rattle.std.specs.List.Sorted.{IsStrictlySortedBy}
use Rattle.std.specs.Map.{lookup}
use Rattle.std.specs.Option.{option_map_or}
use Rattle.std.specs.Ordering.{is_eq, eq_by_cmp, match_ordering, ordering_reverse}
use Rattle.std.specs.declared.cmp.Ordering.{Ordering}
use Rattle.std.specs.declared.cmp.Ordering.TheVariants.{Less, Equal, Greater}
use Rattle.std.specs.Cmp.Lexicographic.{nat_list_cmp_total}
use Rattle.std.proofs.lemmas.Bool.{cases_Bool}
use Rattle.std.proofs.lemmas.Cmp.{tied_itself}
use Rattle.std.proofs.lemmas.List.{length-append, length-take-le, take-append-le, drop-append-le, get_or-take, get_or_append_left}
use Rattle.std.proofs.lemmas.List.Sorted.{IsPermutation-sym, IsPermutation-to_front}
use Rattle.std.proofs.lemmas.Map.Keys.{IsDistinct-cons, IsDistinct-from_sorted, IsDistinct-IsPermutation}
use Rattle.meta_types.specs.Text.{Text, text_cmp}
use Rattle.back_model.specs.Shown.{Shard, AreApart, shard_at, IsPlace}
use Rattle.back_model.specs.Settled.{snapshotters_of, AreOnce, IsAt, AreSettled}
use Rattle.back_model.proofs.ShardPlaces.{none_at_all, same_name}
use Rattle.back_model.proofs.ShardSearches.{name_in}
use Rattle.back_model.proofs.ShardLookups.{one_name, found_first, passed}
use Rattle.back_model.proofs.PlacedShards.{none_among, all_differ}

-- names tie either way
pub ties_flip : (a b : Text) → eq_by_cmp text_cmp a b ≡ eq_by_cmp text_cmp b a
ties_flip a b = ap is_eq (nat_list_cmp_total.antisymm a b) ∙ go (text_cmp b a)
  where
    go : (r : Ordering) → is_eq (ordering_reverse r) ≡ is_eq r
    go Less = refl
    go Equal = refl
    go Greater = refl

take_whole : {A : Type 0} (l : List A) → take (length l) l ≡ l
take_whole [] = refl
take_whole {A} (a ∷ l) = ap (λ (r : List A). a ∷ r) (take_whole l)

drop_whole : {A : Type 0} (l : List A) → drop (length l) l ≡ []
drop_whole [] = refl
drop_whole (a ∷ l) = drop_whole l

-- shards in order are settled
pub all_settled : (names : List Text) → IsStrictlySortedBy text_cmp names
    → AreSettled names (length names) []
all_settled names apart = record {
  within = omega arith;
  front = subst (IsStrictlySortedBy text_cmp) (sym (take_whole names)) apart;
  found = λ name at is. (let no : None ≡ Some at = is in absurd (cc no));
  all = λ name is. rw (drop_whole names) tt;
  once = IsDistinct-from_sorted text_cmp names apart;
}

-- ---- the map of places with one more

module _ (name key : Text) (at : ℕ) where
  -- a name that is the new key's has the new place, and others have what they had
  pub noted : (places : List (Text × ℕ))
      → lookup (is_at (text_cmp name)) (insert_entry text_cmp places key at)
      ≡ cond (is_eq (text_cmp name key)) (Some at) (lookup (is_at (text_cmp name)) places)
  noted [] = refl
  noted (e ∷ places) = go (text_cmp key e.0) refl (noted places)
    where
      both : (b c : Bool) (rest : Option ℕ) → (b ≡ true → c ≡ true → ⊥)
          → cond c (Some e.1) (cond b (Some at) rest) ≡ cond b (Some at) (cond c (Some e.1) rest)
      both true true rest apart = absurd (apart refl refl)
      both true false rest apart = refl
      both false c rest apart = refl

      twice : (b : Bool) (rest : Option ℕ)
          → cond b (Some at) rest ≡ cond b (Some at) (cond b (Some e.1) rest)
      twice true rest = refl
      twice false rest = refl

      go : (r : Ordering) → text_cmp key e.0 ≡ r
          → lookup (is_at (text_cmp name)) (insert_entry text_cmp places key at)
          ≡ cond (is_eq (text_cmp name key)) (Some at) (lookup (is_at (text_cmp name)) places)
          → lookup (is_at (text_cmp name)) (match_ordering r ((key, at) ∷ e ∷ places)
          ((e.0, at) ∷ places) (e ∷ insert_entry text_cmp places key at))
          ≡ cond (is_eq (text_cmp name key)) (Some at)
          (cond (is_eq (text_cmp name e.0)) (Some e.1) (lookup (is_at (text_cmp name)) places))
      go Less is same = refl
      go Equal is same =
          subst (λ (k : Text). cond (is_eq (text_cmp name k)) (Some at)
          (lookup (is_at (text_cmp name)) places)
          ≡ cond (is_eq (text_cmp name key)) (Some at) (cond (is_eq (text_cmp name k)) (Some e.1)
          (lookup (is_at (text_cmp name)) places))) (same_name key e.0 is)
          (twice (is_eq (text_cmp name key)) (lookup (is_at (text_cmp name)) places))
      go Greater is same =
          ap (λ (found : Option ℕ). cond (is_eq (text_cmp name e.0)) (Some e.1) found) same
          ∙ both (is_eq (text_cmp name key)) (is_eq (text_cmp name e.0))
          (lookup (is_at (text_cmp name)) places) (λ b c.
          let one : key ≡ e.0 = sym (one_name name key b) ∙ one_name name e.0 c in
          let ties : text_cmp key e.0 ≡ Equal =
          ap (λ (t : Text). text_cmp key t) (sym one) ∙ tied_itself nat_list_cmp_total key in
          cc (sym is ∙ ties))

-- ---- one name more

module _ (t : Text) (names : List Text) where
  at_old : (name : Text) (at : ℕ) → IsAt name at names → IsAt name at (names ++ t ∷ [])
  at_old name at is =
      let long : length (names ++ t ∷ []) ≡ length names + 1 = length-append names (t ∷ []) in (
        omega (arith, long, is.0),
        λ d. get_or_append_left names (t ∷ []) d at is.0 ∙ is.1 d,
      )

  at_new : (name : Text) → is_eq (text_cmp name t) ≡ true
      → IsAt name (length names) (names ++ t ∷ [])
  at_new name ties =
      let long : length (names ++ t ∷ []) ≡ length names + 1 = length-append names (t ∷ []) in (
        omega (arith, long),
        λ d. last names d ∙ sym (one_name name t ties),
      )
    where
      last : (l : List Text) (d : Text) → get_or (l ++ t ∷ []) (length l) d ≡ t
      last [] d = refl
      last (y ∷ l) d = last l d

  once_more : AllByRecursion (λ other. eq_by_cmp text_cmp t other ≡ false) names → AreOnce names
      → AreOnce (names ++ t ∷ [])
  once_more differ once =
      IsDistinct-IsPermutation (eq_by_cmp text_cmp) ties_flip (t ∷ names) (names ++ t ∷ [])
      (IsPermutation-sym (names ++ t ∷ []) (t ∷ names) (IsPermutation-to_front names t))
      (IsDistinct-cons (eq_by_cmp text_cmp) t names differ once)

  -- it stands behind the others, and the map has its place
  more_settled : (settled : ℕ) (places : List (Text × ℕ))
      → AllByRecursion (λ other. eq_by_cmp text_cmp t other ≡ false) names
      → AreSettled names settled places
      → AreSettled (names ++ t ∷ []) settled (insert_entry text_cmp places t (length names))
  more_settled settled places differ are =
      let long : length (names ++ t ∷ []) ≡ length names + 1 = length-append names (t ∷ []) in
      record {
        within = omega (arith, long, are.within);
        front = subst (IsStrictlySortedBy text_cmp)
            (sym (take-append-le settled names (t ∷ []) are.within)) are.front;
        found = λ name at is. found_more name at (sym (noted name t (length names) places) ∙ is);
        all = λ name is. subst (AllByRecursion (λ other. eq_by_cmp text_cmp name other ≡ false))
            (sym (drop-append-le settled names (t ∷ []) are.within))
            (none_more name (sym (noted name t (length names) places) ∙ is));
        once = once_more differ are.once;
      }
    where
      found_more : (name : Text) (at : ℕ)
          → cond (is_eq (text_cmp name t)) (Some (length names))
          (lookup (is_at (text_cmp name)) places) ≡ Some at
          → IsAt name at (names ++ t ∷ [])
      found_more name at is = elim (cases_Bool (is_eq (text_cmp name t))) [
        | inl ties ↦ (
            let here : Some (length names) ≡ Some at = rw ties at is in
            subst (λ (n : ℕ). IsAt name n (names ++ t ∷ []))
            (ap (λ (o : Option ℕ). option_map_or (λ n. n) o 0) here) (at_new name ties))
        | inr other ↦ (
            let there : lookup (is_at (text_cmp name)) places ≡ Some at = rw other at is in
            at_old name at (are.found name at there))
      ]

      behind : (name : Text) → is_eq (text_cmp name t) ≡ false → (l : List Text)
          → AllByRecursion (λ other. eq_by_cmp text_cmp name other ≡ false) l
          → AllByRecursion (λ other. eq_by_cmp text_cmp name other ≡ false) (l ++ t ∷ [])
      behind name differs [] h = (differs, tt)
      behind name differs (y ∷ l) h = (h.0, behind name differs l h.1)

      none_more : (name : Text)
          → cond (is_eq (text_cmp name t)) (Some (length names))
          (lookup (is_at (text_cmp name)) places) ≡ None
          → AllByRecursion (λ other. eq_by_cmp text_cmp name other ≡ false)
          (drop settled names ++ t ∷ [])
      none_more name is = elim (cases_Bool (is_eq (text_cmp name t))) [
        | inl ties ↦ (
            let here : Some (length names) ≡ None = rw ties at is in absurd (cc here))
        | inr other ↦ (
            let gone : lookup (is_at (text_cmp name)) places ≡ None = rw other at is in
            behind name other (drop settled names) (are.all name gone))
      ]

-- ---- items that are shown as shards

module _ {X : Type 0} (f : X → Shard) where
  abbrev pub names : List X → List Text
  names xs = snapshotters_of (map f xs)

  names_take : (s : ℕ) (xs : List X) → names (take s xs) ≡ take s (names xs)
  names_take zero xs = refl
  names_take (suc s) [] = refl
  names_take (suc s) (x ∷ xs) = ap (λ (l : List Text). (f x).snapshotter ∷ l) (names_take s xs)

  names_drop : (s : ℕ) (xs : List X) → names (drop s xs) ≡ drop s (names xs)
  names_drop zero xs = refl
  names_drop (suc s) [] = refl
  names_drop (suc s) (x ∷ xs) = names_drop s xs

  pub names_count : (xs : List X) → length (names xs) ≡ length xs
  names_count [] = refl
  names_count (x ∷ xs) = ap suc (names_count xs)

  names_at : (xs : List X) (i : ℕ) (d : X)
      → get_or (names xs) i (f d).snapshotter ≡ (f (get_or xs i d)).snapshotter
  names_at [] i d = refl
  names_at (x ∷ xs) zero d = refl
  names_at (x ∷ xs) (suc i) d = names_at xs i d

  at_any : (name : Text) (xs : List X) (i : ℕ) → i < length (names xs)
      → ((d : X) → (f (get_or xs i d)).snapshotter ≡ name) → (t : Text) → get_or (names xs) i t ≡ name
  at_any name [] i lt same t = absurd (omega (arith, lt))
  at_any name (x ∷ xs) zero lt same t = same x
  at_any name (x ∷ xs) (suc i) lt same t = at_any name xs i (omega (arith, lt)) same t

  item_got : (xs : List X) (i : ℕ) (x : X) → slice_get xs i ≡ Some x
      → (i < length xs) × ((d : X) → get_or xs i d ≡ x)
  item_got [] i x got = (let no : None ≡ Some x = got in absurd (cc no))
  item_got (y ∷ ys) zero x got = (
    omega arith,
    λ d. ap (λ (o : Option X). option_map_or (λ z. z) o x) got,
  )
  item_got (y ∷ ys) (suc i) x got =
      let rest : (i < length ys) × ((d : X) → get_or ys i d ≡ x) = item_got ys i x got in
      let lt : i < length ys = rest.0 in
      let more : suc i < suc (length ys) = omega (arith, lt) in
      (more, rest.1)

  -- the place of an item that is got and has the name
  pub got_at : (name : Text) (xs : List X) (i : ℕ) (x : X) → slice_get xs i ≡ Some x
      → (f x).snapshotter ≡ name → IsAt name i (names xs)
  got_at name xs i x got same =
      let item : (i < length xs) × ((d : X) → get_or xs i d ≡ x) = item_got xs i x got in
      let inside : i < length (names xs) =
      subst (λ (n : ℕ). i < n) (sym (names_count xs)) item.0 in (
        inside,
        at_any name xs i inside (λ d. ap (λ (y : X). (f y).snapshotter) (item.1 d) ∙ same),
      )

  none_in_either : (name : Text) (s : ℕ) (xs : List X) → shard_at name (map f (take s xs)) ≡ None
      → shard_at name (map f (drop s xs)) ≡ None → shard_at name (map f xs) ≡ None
  none_in_either name zero xs front late = late
  none_in_either name (suc s) [] front late = refl
  none_in_either name (suc s) (x ∷ xs) front late =
      elim (cases_Bool (is_eq (text_cmp name (f x).snapshotter))) [
        | inl t ↦ absurd (cc (sym (found_first name (f x) (map f (take s xs)) t) ∙ front))
        | inr other ↦ passed name (f x) (map f xs) other ∙ none_in_either name s xs
            (sym (passed name (f x) (map f (take s xs)) other) ∙ front) late
      ]

  -- the item at a place has the name that is there
  pub item_at : (name : Text) (xs : List X) (i : ℕ) → IsAt name i (names xs)
      → (i < length xs) × ((d : X) → (f (get_or xs i d)).snapshotter ≡ name)
  item_at name xs i at = (
    subst (λ (n : ℕ). i < n) (names_count xs) at.0,
    λ d. sym (names_at xs i d) ∙ at.1 (f d).snapshotter,
  )

  module _ (xs : List X) (settled : ℕ) (places : List (Text × ℕ))
      (are : AreSettled (names xs) settled places) where
    pub front_apart : AreApart (map f (take settled xs))
    front_apart = subst (IsStrictlySortedBy text_cmp) (sym (names_take settled xs)) are.front

    pub within : settled ≤ length xs
    within = subst (λ (n : ℕ). settled ≤ n) (names_count xs) are.within

    module _ (name : Text) where
      -- among the settled ones
      pub among_front : (i : ℕ) → IsPlace (name_in f) name (take settled xs) (Ok i)
          → IsAt name i (names xs)
      among_front i p =
          let long : length (take settled xs) ≡ settled = length-take-le settled xs within in
          let lt : i < settled = subst (λ (n : ℕ). i < n) long p.0 in
          let inside : i < length (names xs) = omega (arith, lt, are.within) in (
            inside,
            at_any name xs i inside
                (λ d. sym (same_name name (name_in f (get_or xs i d))
                (ap (λ (x : X). text_cmp name (name_in f x)) (sym (get_or-take settled xs i d lt))
                ∙ p.1 d))),
          )

      -- nowhere
      pub among_none : (k : ℕ) → IsPlace (name_in f) name (take settled xs) (Err k)
          → lookup (is_at (text_cmp name)) places ≡ None → shard_at name (map f xs) ≡ None
      among_none k p gone =
          none_in_either name settled xs
          (none_at_all f name (take settled xs) k p front_apart)
          (none_among name (map f (drop settled xs))
          (subst (AllByRecursion (λ other. eq_by_cmp text_cmp name other ≡ false))
          (sym (names_drop settled xs)) (are.all name gone)))

      -- among the new ones, where the map has a place
      pub among_new : (place : Option ℕ) → lookup (is_at (text_cmp name)) places ≡ place
          → IfSome place (λ at. IsAt name at (names xs))
      among_new None is = tt
      among_new (Some at) is = are.found name at is

      -- nowhere, where it has none
      pub not_new : (k : ℕ) → IsPlace (name_in f) name (take settled xs) (Err k)
          → (place : Option ℕ) → lookup (is_at (text_cmp name)) places ≡ place
          → IfNone place (shard_at name (map f xs) ≡ None)
      not_new k p None is = among_none k p is
      not_new k p (Some at) is = tt

  -- ---- what a change leaves

  module _ (x : X) where
    names_set : (xs : List X) (i : ℕ)
        → ((d : X) → (f (get_or xs i d)).snapshotter ≡ (f x).snapshotter)
        → names (slice_set xs i x) ≡ names xs
    names_set [] i same = refl
    names_set (y ∷ ys) zero same = ap (λ (t : Text). t ∷ names ys) (sym (same y))
    names_set (y ∷ ys) (suc i) same =
        ap (λ (l : List Text). (f y).snapshotter ∷ l) (names_set ys i same)

    -- a shard of the same name stands where one stood
    pub set_settled : (xs : List X) (settled i : ℕ) (places : List (Text × ℕ))
        → ((d : X) → (f (get_or xs i d)).snapshotter ≡ (f x).snapshotter)
        → AreSettled (names xs) settled places
        → AreSettled (names (slice_set xs i x)) settled places
    set_settled xs settled i places same are =
        subst (λ (l : List Text). AreSettled l settled places) (sym (names_set xs i same)) are

    names_push : (xs : List X) → names (xs ++ x ∷ []) ≡ names xs ++ (f x).snapshotter ∷ []
    names_push [] = refl
    names_push (y ∷ ys) = ap (λ (l : List Text). (f y).snapshotter ∷ l) (names_push ys)

    -- a new shard stands behind all others
    pub push_settled : (xs : List X) (settled : ℕ) (places : List (Text × ℕ))
        → shard_at (f x).snapshotter (map f xs) ≡ None → AreSettled (names xs) settled places
        → AreSettled (names (xs ++ x ∷ [])) settled
        (insert_entry text_cmp places (f x).snapshotter (length xs))
    push_settled xs settled places gone are =
        subst (λ (l : List Text). AreSettled l settled
        (insert_entry text_cmp places (f x).snapshotter (length xs))) (sym (names_push xs))
        (subst (λ (n : ℕ). AreSettled (names xs ++ (f x).snapshotter ∷ []) settled
        (insert_entry text_cmp places (f x).snapshotter n)) (names_count xs)
        (more_settled (f x).snapshotter (names xs) settled places
        (all_differ (f x).snapshotter (map f xs) gone) are))
