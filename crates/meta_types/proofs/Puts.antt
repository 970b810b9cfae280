-- What an edit at the place that a search found makes of rows in the order of their keys.
use Rattle.std.proofs.Common.{◌≡◌, ℕ, ◌<◌, Bool, true, false, List, [], ◌∷◌, length, Result, Ok, Err, Some, refl, sym, ap, ◌∙◌, arith, inl, inr}
use Rattle.std.specs.Prelude.{slice_set, IfOk, OnErr}
use Rattle.std.specs.List.{insert, remove, position, position_or_len}
use Rattle.std.proofs.Math.Numerals.{one-add}
use Rattle.std.proofs.lemmas.Grind.{common_steps}
use Rattle.std.proofs.lemmas.Bool.{cases_Bool, and_parts, both_ways}
use Rattle.meta_types.specs.Keys.{Key, is_key, is_before, has_row, add_row, remove_row, put_row, is_first, are_in_order}
use Rattle.meta_types.proofs.Ordered.{keys_total, before_trans, in_order_added, in_order_removed}
use Rattle.meta_types.proofs.RowAtPlace.{put_at_place, remove_at_place}
use Rattle.meta_types.proofs.Searched.{one_way, not_key, even, same_before, in_order_rest, Finds}
use Rattle.std.specs.Ordering.{is_lt}

-- the place that a search gives is within the list
pub placed : {X : Type 0} (p : X → Bool) (xs : List X) (i : ℕ) → Some i ≡ position p xs → (position_or_len p xs ≡ i) × (i < length xs)
placed p xs i e = grind (arith, common_steps)

module _ {Row : Type 0} (key_of : Row → Key) where
  -- a row stands before each key that is behind it
  before_there : (key : Key) (row : Row) (rows : List Row) → are_in_order key_of (row ∷ rows) ≡ true → has_row key_of key rows ≡ true → is_before (key_of row) key ≡ true
  before_there key row [] o h = absurd cc
  before_there key row (next ∷ rows) o h =
      let parts = and_parts (is_before (key_of row) (key_of next)) (are_in_order key_of (next ∷ rows)) o in
      elim (cases_Bool (is_key key (key_of next))) [
        | inl t ↦ ap is_lt (same_before (key_of row) (key_of next) key t) ∙ parts.0
        | inr f ↦ before_trans (key_of row) (key_of next) key parts.0 (before_there key next rows parts.1 (rw f at h))
      ]

  -- of rows in order no other has the key of one that goes
  pub no_row_removed : (key : Key) (rows : List Row) → are_in_order key_of rows ≡ true → has_row key_of key (remove_row key_of key rows) ≡ false
  no_row_removed key [] o = refl
  no_row_removed key (row ∷ rows) o = elim (cases_Bool (is_key key (key_of row))) [
    | inl t ↦ rw t (elim (cases_Bool (has_row key_of key rows)) [
      | inl again ↦ absurd (both_ways (is_key key (key_of row)) (not_key (key_of row) key (before_there key row rows o again)) t)
      | inr gone ↦ gone
    ])
    | inr f ↦ rw (f, f) (no_row_removed key rows (in_order_rest key_of row rows o))
  ]

  pub in_order_put : (row : Row) (rows : List Row) → are_in_order key_of rows ≡ true → are_in_order key_of (put_row key_of row rows) ≡ true
  in_order_put row rows o = in_order_added key_of row (remove_row key_of (key_of row) rows) (in_order_removed key_of (key_of row) rows o) (no_row_removed (key_of row) rows o)

  -- nothing goes where the key isn't there
  pub remove_absent : (key : Key) (rows : List Row) → has_row key_of key rows ≡ false → remove_row key_of key rows ≡ rows
  remove_absent key [] h = refl
  remove_absent key (row ∷ rows) h = elim (cases_Bool (is_key key (key_of row))) [
    | inl t ↦ absurd (cc (rw t at h))
    | inr f ↦ rw f (ap (λ rest. row ∷ rest) (remove_absent key rows (rw f at h)))
  ]

  add_first : (row : Row) (rows : List Row) → is_first key_of row rows ≡ true → add_row key_of row rows ≡ row ∷ rows
  add_first row [] h = refl
  add_first row (next ∷ rows) h = rw h refl

  -- the row takes the place of the one that had its key
  pub put_there : (row : Row) (rows : List Row) → are_in_order key_of rows ≡ true → has_row key_of (key_of row) rows ≡ true
      → put_row key_of row rows ≡ slice_set rows (position_or_len (λ r. is_key (key_of row) (key_of r)) rows) row
  put_there row [] o h = absurd cc
  put_there row (next ∷ rows) o h = elim (cases_Bool (is_key (key_of row) (key_of next))) [
    | inl t ↦ rw t (add_first row rows (first_same rows t (and_parts (is_first key_of next rows) (are_in_order key_of rows) o).0))
    | inr f ↦ (let later = rw f at h in rw (f, one_way (key_of next) (key_of row) (before_there (key_of row) next rows o later), one-add) (ap (λ rest. next ∷ rest) (put_there row rows (in_order_rest key_of next rows o) later)))
  ]
    where
      first_same : (rs : List Row) → is_key (key_of row) (key_of next) ≡ true → is_first key_of next rs ≡ true → is_first key_of row rs ≡ true
      first_same [] t q = refl
      first_same (r ∷ rs) t q = ap is_lt (keys_total.congr (key_of row) (key_of next) (key_of r) (even (key_of row) (key_of next) t)) ∙ q

  pub put_absent : (row : Row) (rows : List Row) → has_row key_of (key_of row) rows ≡ false
      → put_row key_of row rows ≡ insert rows (position_or_len (λ r. is_before (key_of row) (key_of r)) rows) row
  put_absent row rows h = ap (add_row key_of row) (remove_absent (key_of row) rows h) ∙ put_at_place (λ a b. is_before (key_of a) (key_of b)) row rows

  module _ (rows new : List Row) (found : Result ℕ ℕ) where
    -- the row that a search found goes, if there is one
    pub removed_found : (key : Key) → Finds key_of key rows found → IfOk found (λ place. new ≡ remove rows place) → OnErr found (new ≡ rows) → new ≡ remove_row key_of key rows
    removed_found key s there gone = go found s there gone
      where
        go : (r : Result ℕ ℕ) → Finds key_of key rows r → IfOk r (λ place. new ≡ remove rows place) → OnErr r (new ≡ rows) → new ≡ remove_row key_of key rows
        go (Ok i) s there gone = there ∙ ap (remove rows) (sym (placed (λ row. is_key key (key_of row)) rows i s.at).0) ∙ sym (remove_at_place key_of key rows)
        go (Err i) s there gone = gone ∙ sym (remove_absent key rows (sym s.there))

  -- the row is set where a search found its key
  pub set_found : (row : Row) (rows : List Row) (i : ℕ) → are_in_order key_of rows ≡ true → Finds key_of (key_of row) rows (Ok i) → slice_set rows i row ≡ put_row key_of row rows
  set_found row rows i o s = ap (λ n. slice_set rows n row) (sym (placed (λ r. is_key (key_of row) (key_of r)) rows i s.at).0) ∙ sym (put_there row rows o (sym s.there))

  -- the row is put where a search found the gap for its key
  pub inserted_found : (row : Row) (rows : List Row) (i : ℕ) → Finds key_of (key_of row) rows (Err i) → insert rows i row ≡ put_row key_of row rows
  inserted_found row rows i s = ap (λ n. insert rows n row) s.gap ∙ sym (put_absent row rows (sym s.there))
