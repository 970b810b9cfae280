-- Namespaces with their rows, as lists: the place of one, what a search tells, one more.
use Rattle.std.proofs.Common.{◌≡◌, ℕ, ◌<◌, ◌≤◌, zero, suc, Bool, true, List, [], ◌∷◌, ◌++◌, length, get_or, take, map, Some, refl, sym, ap, ◌∙◌, subst, arith, inl, inr}
use Rattle.std.specs.Prelude.{All, slice_get, slice_set, bytes_eq, if◌then◌else◌, ◌&&◌}
use Rattle.std.specs.List.{insert, position, position_or_len, list_all}
use Rattle.std.specs.Cmp.Lexicographic.{slice_cmp, bytes_decides, pointwise}
use Rattle.std.specs.Ordering.{is_lt, ordering_then}
use Rattle.std.specs.declared.cmp.Ordering.{Ordering}
use Rattle.std.specs.declared.cmp.Ordering.TheVariants.{Less, Equal, Greater}
use Rattle.std.proofs.lemmas.Bool.{cases_Bool, and_parts}
use Rattle.std.proofs.lemmas.List.Elements.{All-head, All-tail}
use Rattle.std.proofs.lemmas.List.{take_more}
use Rattle.std.proofs.lemmas.List.Quantifiers.{position-Some}
use Rattle.std.proofs.lemmas.List.Sums.{prefix_len-le-length}
use Rattle.std.proofs.lemmas.Option.{slice_get-get_or}
use Rattle.std.proofs.Common.{not, append-nil, append_assoc, ◌+◌}
use Rattle.meta_types.specs.Text.{Text, text_cmp}
use Rattle.meta_types.specs.Keys.{Key, is_key, is_before, row_at, add_row, change_row, are_in_order}
use Rattle.meta_types.specs.Rows.{namespace_key}
use Rattle.meta_types.proofs.ListSearches.{found_is, row_is_found, no_none, some_is}
use Rattle.meta_types.proofs.KeepsSound.{in_order_changed}
use Rattle.meta_types.proofs.Searched.{are_in_order-map}
use Rattle.row_tables.specs.Namespaces.{group_key, all_rows}

pub place_within : {X : Type 0} (p : X → Bool) (xs : List X) → position_or_len p xs ≤ length xs
place_within p xs = prefix_len-le-length (λ x. not (p x)) xs

pub there_now : {X : Type 0} (xs : List X) (i : ℕ) (x : X) → i ≤ length xs → slice_get (insert xs i x) i ≡ Some x
there_now xs zero x lt = refl
there_now [] (suc i) x lt = absurd (omega arith)
there_now (y ∷ xs) (suc i) x lt = there_now xs i x (omega arith)

-- texts that compare as one are one
pub keys_same : (a b : Key) → is_key a b ≡ true → a ≡ b
keys_same [] [] h = refl
keys_same [] (y ∷ ys) h = absurd cc
keys_same (x ∷ xs) [] h = absurd cc
keys_same (x ∷ xs) (y ∷ ys) h =
    let parts = and_parts (bytes_eq x y) (pointwise bytes_eq xs ys) h in
    λ i. (bytes_decides x y).0 parts.0 i ∷ keys_same xs ys parts.1 i

-- a namespace that stands before another, stands so with all that follows
pub lead_before : (a b : Text) (x y : Key) → is_before (a ∷ []) (b ∷ []) ≡ true → is_before (a ∷ x) (b ∷ y) ≡ true
lead_before a b x y h = go (text_cmp a b) h
  where
    go : (r : Ordering) → is_lt (ordering_then r Equal) ≡ true → is_lt (ordering_then r (slice_cmp text_cmp x y)) ≡ true
    go Less h = refl
    go Equal h = absurd cc
    go Greater h = absurd cc

module _ {Row : Type 0} (key_of : Row → Key) where
  -- what holds of all rows holds of the one that was found
  pub at_found : (P : Row → Type 0) (key : Key) (rows : List Row) (row : Row) → All P rows → row_at key_of key rows ≡ Some row → P row
  at_found P key [] row all found = no_none row found
  at_found P key (next ∷ rows) row all found = elim (cases_Bool (is_key key (key_of next))) [
    | inl t ↦ subst P (some_is next row (rw t at found)) (All-head P next rows all)
    | inr f ↦ at_found P key rows row (All-tail P next rows all) (rw f at found)
  ]

  -- a row of the key becomes another
  abbrev pub instead : Key → Row → Row → Row
  instead key after x = if is_key key (key_of x) then after else x

  pub instead_keeps : (key : Key) (row after x : Row) → key ≡ key_of row → key_of after ≡ key_of row → key_of (instead key after x) ≡ key_of x
  instead_keeps key row after x is same = elim (cases_Bool (is_key key (key_of x))) [
    | inl t ↦ rw t (same ∙ sym is ∙ keys_same key (key_of x) t)
    | inr f ↦ rw f refl
  ]

  pub instead_there : (key : Key) (after : Row) (xs : List Row) → change_row key_of key (λ _. after) xs ≡ change_row key_of key (instead key after) xs
  instead_there key after [] = refl
  instead_there key after (x ∷ xs) = elim (cases_Bool (is_key key (key_of x))) [
    | inl t ↦ rw t refl
    | inr f ↦ rw f (ap (λ rest. x ∷ rest) (instead_there key after xs))
  ]

  -- a row that becomes one of its key keeps the order
  pub in_order_becomes : (key : Key) (row after : Row) (rows : List Row) → are_in_order key_of rows ≡ true → row_at key_of key rows ≡ Some row → key_of after ≡ key_of row → are_in_order key_of (change_row key_of key (λ _. after) rows) ≡ true
  in_order_becomes key row after rows o found same =
      let is : key ≡ key_of row = keys_same key (key_of row) (found_is (λ (x : Row). is_key key (key_of x)) rows row (sym (row_is_found key_of key rows) ∙ found)).1 in
      ap (are_in_order key_of) (instead_there key after rows) ∙ in_order_changed key_of key (instead key after) (λ x. instead_keeps key row after x is same) rows o

module _ {X : Type 0} where
  -- ---- what a search of the namespaces tells

  abbrev pub name_key : Text × X → Key
  name_key group = namespace_key group.0

  pub home_at : (ns : Text) (gs : List (Text × X)) (i : ℕ)
      → Some i ≡ position (λ group. is_key (namespace_key ns) (name_key group)) gs
      → (rows : X) × (slice_get gs i ≡ Some (ns, rows))
  home_at ns [] i at = no_none i (sym at)
  home_at ns (g ∷ gs) i at =
      let found = position-Some (λ (group : Text × X). is_key (namespace_key ns) (name_key group)) (g ∷ gs) i g (sym at) in
      let there = get_or (g ∷ gs) i g in
      let parts = and_parts (bytes_eq ns there.0) true found.1 in
      (there.1, slice_get-get_or (g ∷ gs) i g found.0 ∙ ap (λ m. Some (m, there.1)) (sym ((bytes_decides ns there.0).0 parts.0)))

module _ {Row : Type 0} where
  -- ---- lists of groups

  pub list_at : (gs : List (Text × List Row)) (i : ℕ) (g : Text × List Row) (d : List Row) → slice_get gs i ≡ Some g → get_or (map (λ group. group.1) gs) i d ≡ g.1
  list_at [] i g d at = no_none g at
  list_at (h ∷ gs) zero g d at = ap (λ (x : Text × List Row). x.1) (some_is h g at)
  list_at (h ∷ gs) (suc i) g d at = list_at gs i g d at

  pub lists_set : (gs : List (Text × List Row)) (i : ℕ) (g : Text × List Row) → map (λ group. group.1) (slice_set gs i g) ≡ slice_set (map (λ group. group.1) gs) i g.1
  lists_set [] i g = refl
  lists_set (h ∷ gs) zero g = refl
  lists_set (h ∷ gs) (suc i) g = ap (λ rest. h.1 ∷ rest) (lists_set gs i g)

  pub names_set : (gs : List (Text × List Row)) (i : ℕ) (ns : Text) (rows new : List Row) → slice_get gs i ≡ Some (ns, rows) → map (λ group. group.0) (slice_set gs i (ns, new)) ≡ map (λ group. group.0) gs
  names_set [] i ns rows new at = refl
  names_set (h ∷ gs) zero ns rows new at = ap (λ (x : Text × List Row). x.0 ∷ map (λ (group : Text × List Row). group.0) gs) (sym (some_is h (ns, rows) at))
  names_set (h ∷ gs) (suc i) ns rows new at = ap (λ rest. h.0 ∷ rest) (names_set gs i ns rows new at)

  pub order_of_names : (gs hs : List (Text × List Row)) → map (λ group. group.0) gs ≡ map (λ group. group.0) hs → are_in_order group_key gs ≡ are_in_order group_key hs
  order_of_names gs hs same = sym (are_in_order-map (λ (group : Text × List Row). group.0) namespace_key gs) ∙ ap (are_in_order namespace_key) same ∙ are_in_order-map (λ (group : Text × List Row). group.0) namespace_key hs

  -- the rows of one namespace more
  pub rows_append : (gs hs : List (Text × List Row)) → all_rows (gs ++ hs) ≡ all_rows gs ++ all_rows hs
  rows_append [] hs = refl
  rows_append (g ∷ gs) hs = ap (λ rows. g.1 ++ rows) (rows_append gs hs) ∙ sym (append_assoc g.1 (all_rows gs) (all_rows hs))

  -- a test of all rows
  pub all_append : (p : Row → Bool) (xs ys : List Row)
      → list_all p (xs ++ ys) ≡ (list_all p xs && list_all p ys)
  all_append p [] ys = refl
  all_append p (x ∷ xs) ys = elim (cases_Bool (p x)) [
    | inl t ↦ rw t (all_append p xs ys)
    | inr f ↦ rw f refl
  ]

  pub rows_more : (gs : List (Text × List Row)) (i : ℕ) (g : Text × List Row) → i < length gs → g ≡ get_or gs i g → all_rows (take (i + 1) gs) ≡ all_rows (take i gs) ++ g.1
  rows_more gs i g lt is = ap all_rows (take_more gs i g lt) ∙ rows_append (take i gs) (get_or gs i g ∷ [])
      ∙ ap (λ rows. all_rows (take i gs) ++ rows) (append-nil (get_or gs i g).1 ∙ ap (λ (x : Text × List Row). x.1) (sym is))

  pub names_kept : (gs : List (Text × List Row)) (i : ℕ) (g new : Text × List Row) → g ≡ get_or gs i g → new.0 ≡ g.0 → map (λ group. group.0) (slice_set gs i new) ≡ map (λ group. group.0) gs
  names_kept [] i g new is same = refl
  names_kept (h ∷ gs) zero g new is same = ap (λ m. m ∷ map (λ (group : Text × List Row). group.0) gs) (same ∙ ap (λ (x : Text × List Row). x.0) is)
  names_kept (h ∷ gs) (suc i) g new is same = ap (λ rest. h.0 ∷ rest) (names_kept gs i g new is same)

  -- a namespace more has no row
  pub opened_rows : (ns : Text) (gs : List (Text × List Row)) → all_rows (add_row group_key (ns, []) gs) ≡ all_rows gs
  opened_rows ns [] = refl
  opened_rows ns (g ∷ gs) = elim (cases_Bool (is_before (ns ∷ []) (group_key g))) [
    | inl t ↦ rw t refl
    | inr f ↦ rw f (ap (λ rows. g.1 ++ rows) (opened_rows ns gs))
  ]
