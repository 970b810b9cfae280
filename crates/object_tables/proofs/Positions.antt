-- Rows by the place that a search gives.
use Rattle.std.proofs.Common.{◌≡◌, ℕ, Bool, ltb, List, length, Some, sym, ap, ◌∙◌, inl, inr}
use Rattle.std.specs.List.{position_or_len, position, remove, insert}
use Rattle.std.proofs.lemmas.Bool.{cases_Bool}
use Rattle.meta_types.specs.Keys.{Key, is_key, remove_row, put_in_order}
use Rattle.meta_types.proofs.RowAtPlace.{remove_at_place, put_at_place}

module _ {Row : Type 0} (key_of : Row → Key) (key : Key) where
  pub removed_here : (rows new : List Row) (place : ℕ) → place ≡ position_or_len (λ row. is_key key (key_of row)) rows → new ≡ remove rows place → new ≡ remove_row key_of key rows
  removed_here rows new place e is = is ∙ ap (remove rows) e ∙ sym (remove_at_place key_of key rows)

pub added_here : {Row : Type 0} (before : Row → Row → Bool) (row : Row) (rows new : List Row) (place : ℕ) → place ≡ position_or_len (before row) rows → new ≡ insert rows place row → new ≡ put_in_order before row rows
added_here before row rows new place e is = is ∙ ap (λ i. insert rows i row) e ∙ sym (put_at_place before row rows)

-- a place that is found is the first
pub place_is : {X : Type 0} (p : X → Bool) (xs : List X) (i : ℕ) → Some i ≡ position p xs → i ≡ position_or_len p xs
place_is p xs i e = elim (cases_Bool (ltb (position_or_len p xs) (length xs))) [
  | inl t ↦ cc (rw t at e)
  | inr f ↦ absurd (cc (rw f at e))
]

pub removed_at : {Row : Type 0} (key_of : Row → Key) (key : Key) (rows new : List Row) (place : ℕ) → Some place ≡ position (λ row. is_key key (key_of row)) rows → new ≡ remove rows place → new ≡ remove_row key_of key rows
removed_at key_of key rows new place e is = removed_here key_of key rows new place (place_is (λ row. is_key key (key_of row)) rows place e) is
