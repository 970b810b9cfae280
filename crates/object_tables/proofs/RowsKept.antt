-- Rows that are added, removed or changed: which row a key has then, and what holds of each pair.
use Rattle.std.proofs.Common.{◌≡◌, Bool, true, false, cond, List, [], ◌∷◌, refl, sym, ap, ◌∙◌, subst, arith, ◌⊎◌, inl, inr}
use Rattle.std.specs.Prelude.{All, AllPairs, Contains, Some, is_some}
use Rattle.std.specs.Ordering.{is_eq}
use Rattle.std.proofs.lemmas.Bool.{cases_Bool, both_ways}
use Rattle.std.proofs.lemmas.Cmp.{tied_itself}
use Rattle.std.proofs.lemmas.List.Elements.{All-cons, All-head, All-tail, All-weaker, All-contains}
use Rattle.std.proofs.lemmas.List.Kept.{AllPairs-cons}
use Rattle.meta_types.specs.Keys.{Key, is_key, is_before, row_at, has_row, add_row, remove_row, change_row}
use Rattle.object_tables.specs.Calls.{kept}
use Rattle.meta_types.proofs.Ordered.{keys_total, key_ties}
use Rattle.meta_types.proofs.ListSearches.{pairs_head, pairs_tail, some_is, no_none, found_is, row_is_found}
use Rattle.meta_types.proofs.KeepsSound.{all_removed, all_changed}
use Rattle.row_tables.proofs.NamespaceLists.{keys_same}

-- ---- keys

-- a key is the same as itself
pub key_itself : (key : Key) → is_key key key ≡ true
key_itself key = key_ties key key ∙ ap is_eq (tied_itself keys_total key)

-- ---- the row of a key

module _ {Row : Type 0} (key_of : Row → Key) where
  -- it is one of the rows, and has the key
  pub row_is : (key : Key) (rows : List Row) (row : Row) → row_at key_of key rows ≡ Some row
      → Contains rows row × (key ≡ key_of row)
  row_is key rows row e =
      let found = found_is (λ other. is_key key (key_of other)) rows row
      (sym (row_is_found key_of key rows) ∙ e) in
      (found.0, keys_same key (key_of row) found.1)

  -- a key that no row has isn't that of a row
  pub no_row_of : (free key : Key) (rows : List Row) (row : Row) → has_row key_of free rows ≡ false
      → row_at key_of key rows ≡ Some row → is_key key free ≡ false
  no_row_of free key rows row none e = elim (cases_Bool (is_key key free)) [
    | inl t ↦
        absurd (both_ways (has_row key_of free rows) none
        (ap is_some (sym (ap (λ k. row_at key_of k rows) (keys_same key free t)) ∙ e)))
    | inr f ↦ f
  ]

  -- where another row goes
  pub row_removed : (other key : Key) → is_key other key ≡ false → (rows : List Row)
      → row_at key_of other (remove_row key_of key rows) ≡ row_at key_of other rows
  row_removed other key n [] = refl
  row_removed other key n (row ∷ rows) = elim (cases_Bool (is_key key (key_of row))) [
    | inl t ↦ (
        let apart : is_key other (key_of row) ≡ false =
        ap (is_key other) (sym (keys_same key (key_of row) t))
        ∙ n in
        rw (t, apart) refl)
    | inr f ↦ rw f (ap (cond (is_key other (key_of row)) (Some row)) (row_removed other key n rows))
  ]

  -- where another row comes
  pub row_added : (key : Key) (new : Row) → is_key key (key_of new) ≡ false → (rows : List Row)
      → row_at key_of key (add_row key_of new rows) ≡ row_at key_of key rows
  row_added key new n [] = rw n refl
  row_added key new n (row ∷ rows) = elim (cases_Bool (is_before (key_of new) (key_of row))) [
    | inl t ↦ rw (t, n) refl
    | inr f ↦ rw f (ap (cond (is_key key (key_of row)) (Some row)) (row_added key new n rows))
  ]

  -- where a row changes, but no key
  pub row_changed : (other key : Key) (change : Row → Row)
      → ((row : Row) → key_of (change row) ≡ key_of row)
      → (rows : List Row) (found : Row) → row_at key_of other rows ≡ Some found
      → (next : Row) × (row_at key_of other (change_row key_of key change rows) ≡ Some next)
      × ((next ≡ found) ⊎ (next ≡ change found))
  row_changed other key change same [] found e = no_none found e
  row_changed other key change same (row ∷ rows) found e =
      elim (cases_Bool (is_key key (key_of row))) [
        | inl t ↦ elim (cases_Bool (is_key other (key_of row))) [
          | inl u ↦ (
            change row,
            rw (t, same row, u) refl,
            inr (ap change (some_is row found (rw u at e))),
          )
          | inr g ↦ (found, rw (t, same row, g) (rw g at e), inl refl)
        ]
        | inr f ↦ elim (cases_Bool (is_key other (key_of row))) [
          | inl u ↦ (row, rw (f, u) refl, inl (some_is row found (rw u at e)))
          | inr g ↦
              (let rest = row_changed other key change same rows found (rw g at e) in
              (rest.0, rw (f, g) rest.1, rest.2))
        ]
      ]

  -- a key that no row has, none has where one goes
  pub free_removed : (free key : Key) (rows : List Row) → has_row key_of free rows ≡ false
      → has_row key_of free (remove_row key_of key rows) ≡ false
  free_removed free key [] h = refl
  free_removed free key (row ∷ rows) h = elim (cases_Bool (is_key free (key_of row))) [
    | inl t ↦ absurd (cc (rw t at h))
    | inr f ↦ elim (cases_Bool (is_key key (key_of row))) [
      | inl u ↦ rw u (rw f at h)
      | inr g ↦ rw (g, f) (free_removed free key rows (rw f at h))
    ]
  ]

  -- ---- pairs of rows

  module _ (R : Row → Row → Type 0) where
    pub pairs_removed : (key : Key) (rows : List Row) → AllPairs R rows
        → AllPairs R (remove_row key_of key rows)
    pairs_removed key [] h = h
    pairs_removed key (row ∷ rows) h = elim (cases_Bool (is_key key (key_of row))) [
      | inl t ↦ rw t (pairs_tail R row rows h)
      | inr f ↦ rw f
          (AllPairs-cons R row (remove_row key_of key rows)
          (all_removed key_of (R row) key rows (pairs_head R row rows h))
          (pairs_removed key rows (pairs_tail R row rows h)))
    ]

    -- where a row changes to one of which it holds too
    pub pairs_changed : (key : Key) (change : Row → Row)
        → ((a b : Row) → R a b → R (change a) b × R a (change b)) → (rows : List Row)
        → AllPairs R rows
        → AllPairs R (change_row key_of key change rows)
    pairs_changed key change keeps [] h = h
    pairs_changed key change keeps (row ∷ rows) h = elim (cases_Bool (is_key key (key_of row))) [
      | inl t ↦ rw t
          (AllPairs-cons R (change row) rows
          (All-weaker (R row) (R (change row)) (λ other r. (keeps row other r).0) rows
          (pairs_head R row rows h)) (pairs_tail R row rows h))
      | inr f ↦ rw f (AllPairs-cons R row (change_row key_of key change rows)
          (all_changed key_of (R row) key change (λ other r. (keeps row other r).1) rows
          (pairs_head R row rows h))
          (pairs_changed key change keeps rows (pairs_tail R row rows h)))
    ]

    -- it holds of a row with each other
    pub pairs_of : ((a b : Row) → R a b → R b a) → (key : Key) (rows : List Row) (row : Row)
        → row_at key_of key rows ≡ Some row → AllPairs R rows
        → All (λ other. R row other × R other row) (remove_row key_of key rows)
    pairs_of swap key [] row e h = no_none row e
    pairs_of swap key (first ∷ rows) row e h = elim (cases_Bool (is_key key (key_of first))) [
      | inl t ↦ rw t
          (All-weaker (R row) (λ other. R row other × R other row)
          (λ other r. (r, swap row other r)) rows
          (subst (λ (x : Row). All (R x) rows) (some_is first row (rw t at e))
          (pairs_head R first rows h)))
      | inr f ↦ (
          let rest : row_at key_of key rows ≡ Some row = rw f at e in
          let r : R first row = All-contains (R first) rows row (pairs_head R first rows h)
          (row_is key rows row rest).0 in
          rw f
          (All-cons (λ other. R row other × R other row) first (remove_row key_of key rows)
          (swap first row r, r) (pairs_of swap key rows row rest (pairs_tail R first rows h))))
    ]

-- a row that was added where none of its key was is taken out again
pub taken_out : {Row : Type 0} (key_of : Row → Key) (row : Row) (rows : List Row)
    → has_row key_of (key_of row) rows ≡ false
    → remove_row key_of (key_of row) (add_row key_of row rows) ≡ rows
taken_out key_of row [] free = rw (key_itself (key_of row)) refl
taken_out key_of row (next ∷ rows) free = elim (cases_Bool (is_key (key_of row) (key_of next))) [
  | inl u ↦ absurd (cc (rw u at free))
  | inr g ↦ elim (cases_Bool (is_before (key_of row) (key_of next))) [
    | inl t ↦ rw (t, key_itself (key_of row)) refl
    | inr f ↦ rw (f, g) (ap (λ others. next ∷ others) (taken_out key_of row rows (rw g at free)))
  ]
]

-- ---- rows whose mark is set

module _ {Row : Type 0} where
  pub all_kept : (P : Row → Type 0) (marks : List Bool) (rows : List Row) → All P rows
      → All P (kept marks rows)
  all_kept P [] rows h = λ k d lt. absurd (omega arith)
  all_kept P (stays ∷ marks) [] h = h
  all_kept P (true ∷ marks) (row ∷ rows) h =
      All-cons P row (kept marks rows) (All-head P row rows h)
      (all_kept P marks rows (All-tail P row rows h))
  all_kept P (false ∷ marks) (row ∷ rows) h = all_kept P marks rows (All-tail P row rows h)

  pub pairs_kept : (R : Row → Row → Type 0) (marks : List Bool) (rows : List Row) → AllPairs R rows
      → AllPairs R (kept marks rows)
  pairs_kept R [] rows h = λ i j d lt within. absurd (omega arith)
  pairs_kept R (stays ∷ marks) [] h = h
  pairs_kept R (true ∷ marks) (row ∷ rows) h =
      AllPairs-cons R row (kept marks rows) (all_kept (R row) marks rows (pairs_head R row rows h))
      (pairs_kept R marks rows (pairs_tail R row rows h))
  pairs_kept R (false ∷ marks) (row ∷ rows) h = pairs_kept R marks rows (pairs_tail R row rows h)
