-- A row of a key by its place, and what an edit at that place makes.
use Rattle.std.proofs.Common.{◌≡◌, Bool, List, [], ◌∷◌, refl, ap, inl, inr, slice_get}
use Rattle.std.specs.List.{insert, remove, position_or_len}
use Rattle.std.proofs.Math.Numerals.{one-add}
use Rattle.std.proofs.lemmas.Bool.{cases_Bool}
use Rattle.meta_types.specs.Keys.{Key, is_key, put_in_order, row_at, remove_row}

-- an item is put before the first item that it goes before, or at the end if there is none
pub put_at_place : {X : Type 0} (before : X → X → Bool) (x : X) (xs : List X) → put_in_order before x xs ≡ insert xs (position_or_len (before x) xs) x
put_at_place before x [] = refl
put_at_place before x (y ∷ ys) = elim (cases_Bool (before x y)) [
  | inl t ↦ rw t refl
  | inr f ↦ rw (f, one-add) (ap (λ zs. y ∷ zs) (put_at_place before x ys))
]

module _ {Row : Type 0} (key_of : Row → Key) (key : Key) where
  pub row_at_place : (rows : List Row) → row_at key_of key rows ≡ slice_get rows (position_or_len (λ row. is_key key (key_of row)) rows)
  row_at_place [] = refl
  row_at_place (row ∷ rows) = elim (cases_Bool (is_key key (key_of row))) [
    | inl t ↦ rw t refl
    | inr f ↦ rw (f, one-add) (row_at_place rows)
  ]

  -- the row of a key is removed at the first place that has the key
  pub remove_at_place : (rows : List Row) → remove_row key_of key rows ≡ remove rows (position_or_len (λ row. is_key key (key_of row)) rows)
  remove_at_place [] = refl
  remove_at_place (row ∷ rows) = elim (cases_Bool (is_key key (key_of row))) [
    | inl t ↦ rw t refl
    | inr f ↦ rw (f, one-add) (ap (λ others. row ∷ others) (remove_at_place rows))
  ]
