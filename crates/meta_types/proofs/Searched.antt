-- What a binary search finds in rows in the order of their keys, and what an edit there makes.
use Rattle.std.proofs.Common.{◌≡◌, ℕ, ◌+◌, ◌<◌, ◌≤◌, zero, suc, Bool, true, false, List, [], ◌∷◌, length, get_or, Result, Ok, Err, refl, sym, ap, ◌∙◌, arith, inl, inr, Some, None, cond, ltb, not, map}
use Rattle.std.specs.Prelude.{is_ok, IfOk, IfErr, ◌&&◌}
use Rattle.std.specs.List.{position, position_or_len}
use Rattle.std.specs.List.Sorted.{IsBinarySearchResult, IsNonDecreasingBy, IsSearchInRange}
use Rattle.std.specs.Cmp.Lexicographic.{slice_cmp}
use Rattle.std.specs.Ordering.{is_lt, is_eq, ordering_reverse, ordering_index}
use Rattle.std.specs.declared.cmp.Ordering.{Ordering}
use Rattle.std.specs.declared.cmp.Ordering.TheVariants.{Less, Equal, Greater}
use Rattle.std.proofs.lemmas.Bool.{cases_Bool, and_parts, lt-ltb, cases_lt}
use Rattle.std.proofs.lemmas.List.Sums.{position_or_len_is}
use Rattle.std.proofs.lemmas.List.Sorted.{searchable_from_sorted}
use Rattle.meta_types.specs.Text.{text_cmp}
use Rattle.meta_types.specs.Keys.{Key, is_key, is_before, has_row, are_in_order}
use Rattle.meta_types.proofs.Ordered.{keys_total, key_ties, before_trans}

-- how a row's key compares to the one that is looked for
abbrev pub key_cmp : {Row : Type 0} → (Row → Key) → Key → Row → Ordering
key_cmp key_of key row = slice_cmp text_cmp (key_of row) key

behind : (a b : Key) → is_before a b ≡ true → slice_cmp text_cmp b a ≡ Greater
behind a b h = keys_total.antisymm b a ∙ ap ordering_reverse (less (slice_cmp text_cmp a b) h)
  where
    less : (r : Ordering) → is_lt r ≡ true → r ≡ Less
    less Less e = refl
    less Equal e = absurd cc
    less Greater e = absurd cc

-- a key that stands before another doesn't stand behind it
pub one_way : (a b : Key) → is_before a b ≡ true → is_before b a ≡ false
one_way a b h = ap is_lt (behind a b h)

-- nor is it that key
pub not_key : (a b : Key) → is_before a b ≡ true → is_key b a ≡ false
not_key a b h = key_ties b a ∙ ap is_eq (behind a b h)

module _ {Row : Type 0} (key_of : Row → Key) where
  -- a row in order stands before each later one
  first_before : (row : Row) (rows : List Row) → are_in_order key_of (row ∷ rows) ≡ true → (i : ℕ) (d : Row) → i < length rows → is_before (key_of row) (key_of (get_or rows i d)) ≡ true
  first_before row [] o i d lt = absurd (omega arith)
  first_before row (next ∷ rows) o zero d lt = (and_parts _ _ o).0
  first_before row (next ∷ rows) o (suc i) d lt =
      let parts = and_parts (is_before (key_of row) (key_of next)) (are_in_order key_of (next ∷ rows)) o in
      before_trans (key_of row) (key_of next) (key_of (get_or rows i d)) parts.0 (first_before next rows parts.1 i d (omega arith))

  -- rows in order are in order without the first
  pub in_order_rest : (row : Row) (rows : List Row) → are_in_order key_of (row ∷ rows) ≡ true → are_in_order key_of rows ≡ true
  in_order_rest row rows o = (and_parts _ (are_in_order key_of rows) o).1

  pub before_later : (rows : List Row) → are_in_order key_of rows ≡ true → (i j : ℕ) (d : Row) → i < j → j < length rows → is_before (key_of (get_or rows i d)) (key_of (get_or rows j d)) ≡ true
  before_later [] o i j d lt within = absurd (omega arith)
  before_later (row ∷ rows) o i zero d lt within = absurd (omega arith)
  before_later (row ∷ rows) o zero (suc j) d lt within = first_before row rows o j d (omega arith)
  before_later (row ∷ rows) o (suc i) (suc j) d lt within = before_later rows (in_order_rest row rows o) i j d (omega arith) (omega arith)

-- keys with the same texts compare as equal
pub even : (a b : Key) → is_key a b ≡ true → slice_cmp text_cmp a b ≡ Equal
even a b same = go (slice_cmp text_cmp a b) (sym (key_ties a b) ∙ same)
  where
    go : (r : Ordering) → is_eq r ≡ true → r ≡ Equal
    go Less e = absurd cc
    go Equal e = refl
    go Greater e = absurd cc

-- what compares to a key, compares so to the same key
pub same_before : (a b key : Key) → is_key key b ≡ true → slice_cmp text_cmp a key ≡ slice_cmp text_cmp a b
same_before a b key same = keys_total.antisymm a key ∙ ap ordering_reverse (keys_total.congr key b a (even key b same)) ∙ sym (keys_total.antisymm a b)

pub position_at : {X : Type 0} (p : X → Bool) (xs : List X) (i : ℕ) → position_or_len p xs ≡ i → i < length xs → Some i ≡ position p xs
position_at p xs i e within = sym (ap (λ n. cond (ltb n (length xs)) (Some n) None) e ∙ ap (λ b. cond b (Some i) None) (lt-ltb i (length xs) within))

module _ {Row : Type 0} (key_of : Row → Key) (key : Key) where
  -- each key before the one that is looked for compares less to it, and each behind it greater
  rises : (rows : List Row) → are_in_order key_of rows ≡ true → IsNonDecreasingBy (λ row. ordering_index (key_cmp key_of key row)) rows
  rises rows o = searchable_from_sorted keys_total key_of rows key (λ k d low lt. one_way (key_of (get_or rows k d)) (key_of (get_or rows (k + 1) d)) (before_later key_of rows o k (k + 1) d (omega arith) lt))

  at_key : (row : Row) → key_cmp key_of key row ≡ Equal → is_key key (key_of row) ≡ true
  at_key row e = key_ties key (key_of row) ∙ ap is_eq (keys_total.antisymm key (key_of row) ∙ ap ordering_reverse e)

  -- the place where the search stops at the key is the first of it, since no key stands twice
  pub place_found : (rows : List Row) → are_in_order key_of rows ≡ true → (i : ℕ) (d : Row) → i < length rows → key_cmp key_of key (get_or rows i d) ≡ Equal
      → position_or_len (λ row. is_key key (key_of row)) rows ≡ i
  place_found rows o i d within e =
      position_or_len_is (λ row. is_key key (key_of row)) rows i d (omega arith)
      (λ k lt. key_ties key (key_of (get_or rows k d))
      ∙ ap is_eq (sym (keys_total.congr (key_of (get_or rows i d)) key (key_of (get_or rows k d)) e))
      ∙ sym (key_ties (key_of (get_or rows i d)) (key_of (get_or rows k d)))
      ∙ not_key (key_of (get_or rows k d)) (key_of (get_or rows i d)) (before_later key_of rows o k i d lt within))
      (λ _. at_key (get_or rows i d) e)

  -- between the keys that compare less and those that compare greater is
  -- the place where the key goes
  pub place_absent : (rows : List Row) (i : ℕ) (d : Row) → i ≤ length rows
      → ((k : ℕ) → k < i → key_cmp key_of key (get_or rows k d) ≡ Less) → ((k : ℕ) → i ≤ k → k < length rows → key_cmp key_of key (get_or rows k d) ≡ Greater)
      → position_or_len (λ row. is_before key (key_of row)) rows ≡ i
  place_absent rows i d within low high =
      position_or_len_is (λ row. is_before key (key_of row)) rows i d within
      (λ k lt. one_way (key_of (get_or rows k d)) key (ap is_lt (low k lt)))
      (λ lt. ap is_lt (keys_total.antisymm key (key_of (get_or rows i d)) ∙ ap ordering_reverse (high i (omega arith) lt)))

  -- a key that compares to none as the same isn't there
  pub no_row : (rows : List Row) → ((k : ℕ) (d : Row) → k < length rows → is_key key (key_of (get_or rows k d)) ≡ false) → has_row key_of key rows ≡ false
  no_row [] h = refl
  no_row (row ∷ rows) h = rw (h 0 row (omega arith)) (no_row rows (λ k d lt. h (suc k) d (omega arith)))

  -- a row that has the key is found
  pub some_row : (rows : List Row) (i : ℕ) (d : Row) → i < length rows → is_key key (key_of (get_or rows i d)) ≡ true → has_row key_of key rows ≡ true
  some_row [] i d lt e = absurd (omega arith)
  some_row (row ∷ rows) zero d lt e = rw e refl
  some_row (row ∷ rows) (suc i) d lt e = elim (cases_Bool (is_key key (key_of row))) [
    | inl t ↦ rw t refl
    | inr f ↦ rw f (some_row rows i d (omega arith) e)
  ]

  not_the_key : (row : Row) (r : Ordering) → key_cmp key_of key row ≡ r → is_eq (ordering_reverse r) ≡ false → is_key key (key_of row) ≡ false
  not_the_key row r e n = key_ties key (key_of row) ∙ ap is_eq (keys_total.antisymm key (key_of row) ∙ ap ordering_reverse e) ∙ n

  -- what a binary search by the key answers: the row's place, or the place where it goes
  pub record Finds (rows : List Row) (found : Result ℕ ℕ) : Type 0 where
    pub there : is_ok found ≡ has_row key_of key rows
    pub at : IfOk found (λ place. Some place ≡ position (λ row. is_key key (key_of row)) rows)
    pub gap : IfErr found (λ place. place ≡ position_or_len (λ row. is_before key (key_of row)) rows)

  pub searched : (rows : List Row) (found : Result ℕ ℕ) → are_in_order key_of rows ≡ true → IsSearchInRange found (length rows) → IsBinarySearchResult (key_cmp key_of key) rows found → Finds rows found
  searched [] (Ok i) o within h = absurd (omega (arith, within))
  searched [] (Err i) o within h = record { there = refl; at = tt; gap = omega (arith, within) }
  searched (row ∷ rows) (Ok i) o within h = record {
    there = sym (some_row (row ∷ rows) i row within (at_key (get_or (row ∷ rows) i row) (h row)));
    at = position_at (λ r. is_key key (key_of r)) (row ∷ rows) i (place_found (row ∷ rows) o i row within (h row)) within;
    gap = tt;
  }
  searched (row ∷ rows) (Err i) o within h =
      let parted = h (rises (row ∷ rows) o) in record {
        there = sym (no_row (row ∷ rows) (λ k d lt. elim (cases_lt k i) [
          | inl low ↦ not_the_key (get_or (row ∷ rows) k d) Less (parted.0 k d (omega arith) low) refl
          | inr high ↦ not_the_key (get_or (row ∷ rows) k d) Greater (parted.1 k d high lt) refl
        ]));
        at = tt;
        gap = sym (place_absent (row ∷ rows) i row within (λ k low. parted.0 k row (omega arith) low) (λ k high lt. parted.1 k row high lt));
      }

-- rows that are made of other rows have the same places
module _ {X Row : Type 0} (f : X → Row) where
  pub position_or_len-map : (p : Row → Bool) (xs : List X) → position_or_len p (map f xs) ≡ position_or_len (λ x. p (f x)) xs
  position_or_len-map p [] = refl
  position_or_len-map p (x ∷ xs) = ap (λ n. cond (not (p (f x))) (1 + n) 0) (position_or_len-map p xs)

  module _ (key_of : Row → Key) where
    pub has_row-map : (key : Key) (xs : List X) → has_row key_of key (map f xs) ≡ has_row (λ x. key_of (f x)) key xs
    has_row-map key [] = refl
    has_row-map key (x ∷ xs) = elim (cases_Bool (is_key key (key_of (f x)))) [
      | inl t ↦ rw t refl
      | inr e ↦ rw e (has_row-map key xs)
    ]

    -- mapped items are in order by a key exactly if the items are by the key of what each is mapped
    -- to
    pub are_in_order-map : (xs : List X) → are_in_order key_of (map f xs) ≡ are_in_order (λ x. key_of (f x)) xs
    are_in_order-map [] = refl
    are_in_order-map (x ∷ []) = refl
    are_in_order-map (x ∷ y ∷ xs) = ap (λ b. is_before (key_of (f x)) (key_of (f y)) && b) (are_in_order-map (y ∷ xs))
