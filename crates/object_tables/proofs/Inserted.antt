-- Rows that are put in their places, and what a test keeps of them.
use Rattle.std.proofs.Common.{◌≡◌, Bool, true, false, List, [], ◌∷◌, refl, sym, ap, inl, inr}
use Rattle.std.specs.Prelude.{filter}
use Rattle.std.proofs.lemmas.Bool.{cases_Bool, and_parts}
use Rattle.meta_types.specs.Keys.{Key, is_before, is_first, add_row, are_in_order}
use Rattle.object_tables.proofs.Committing.{added_first, first_later}

module _ {Row : Type 0} (key_of : Row → Key) where
  first_filtered : (p : Row → Bool) (before : Row) (rows : List Row)
      → is_first key_of before rows ≡ true → are_in_order key_of rows ≡ true
      → is_first key_of before (filter p rows) ≡ true
  first_filtered p before [] h o = refl
  first_filtered p before (next ∷ rows) h o =
      let parts = and_parts (is_first key_of next rows) (are_in_order key_of rows) o in
      elim (cases_Bool (p next)) [
        | inl t ↦ rw t h
        | inr f ↦ rw f (first_filtered p before rows
            (first_later key_of before next rows h parts.0) parts.1)
      ]

  -- a test that the new row fails keeps what it kept
  pub filtered_out : (p : Row → Bool) (row : Row) → p row ≡ false → (rows : List Row)
      → filter p (add_row key_of row rows) ≡ filter p rows
  filtered_out p row h [] = rw h refl
  filtered_out p row h (x ∷ rows) = elim (cases_Bool (is_before (key_of row) (key_of x))) [
    | inl t ↦ rw (t, h) refl
    | inr f ↦ rw f (elim (cases_Bool (p x)) [
      | inl u ↦ rw u (ap (λ others. x ∷ others) (filtered_out p row h rows))
      | inr g ↦ rw g (filtered_out p row h rows)
    ])
  ]

  -- and one that it passes, that row too
  pub filtered_in : (p : Row → Bool) (row : Row) → p row ≡ true → (rows : List Row)
      → are_in_order key_of rows ≡ true → filter p (add_row key_of row rows) ≡ add_row key_of row
      (filter p rows)
  filtered_in p row h [] o = rw h refl
  filtered_in p row h (x ∷ rows) o =
      let parts = and_parts (is_first key_of x rows) (are_in_order key_of rows) o in
      elim (cases_Bool (is_before (key_of row) (key_of x))) [
        | inl t ↦ rw (t, h) (sym (added_first key_of row (filter p (x ∷ rows))
            (first_filtered p row (x ∷ rows) t o)))
        | inr f ↦ rw f (elim (cases_Bool (p x)) [
          | inl u ↦ rw (u, f) (ap (λ others. x ∷ others) (filtered_in p row h rows parts.1))
          | inr g ↦ rw g (filtered_in p row h rows parts.1)
        ])
      ]
