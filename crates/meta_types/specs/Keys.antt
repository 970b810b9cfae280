-- Lists of rows in the order of their keys. Ours, unless a source stands beside.
use Rattle.std.specs.Prelude.{Bool, true, ◌&&◌, List, [], ◌∷◌, Option, Some, None, if◌then◌else◌, bytes_eq, is_some}
use Rattle.std.specs.Cmp.Lexicographic.{slice_cmp, pointwise}
use Rattle.std.specs.Ordering.{is_lt}
use Rattle.meta_types.specs.Text.{Text, text_cmp}

-- a key is a list of texts, as a namespace and a name
abbrev pub Key : Type 0
Key = List Text

-- the keys are one: they have the same texts
abbrev pub is_key : Key → Key → Bool
is_key = pointwise bytes_eq

-- keys are ordered text by text, from the first to the last
abbrev pub is_before : Key → Key → Bool
is_before a b = is_lt (slice_cmp text_cmp a b)

-- a list with one more item, before the first that it stands before
abbrev pub put_in_order : {X : Type 0} → (X → X → Bool) → X → List X → List X
put_in_order before x [] = x ∷ []
put_in_order before x (y ∷ ys) = if before x y then x ∷ y ∷ ys else y ∷ put_in_order before x ys

abbrev pub in_order : {X : Type 0} → (X → X → Bool) → List X → List X
in_order before [] = []
in_order before (x ∷ xs) = put_in_order before x (in_order before xs)

module _ {Row : Type 0} (key_of : Row → Key) where
  abbrev pub row_at : Key → List Row → Option Row
  row_at key [] = None
  row_at key (row ∷ rows) = if is_key key (key_of row) then Some row else row_at key rows

  abbrev pub has_row : Key → List Row → Bool
  has_row key rows = is_some (row_at key rows)

  -- one row more, in its place
  abbrev pub add_row : Row → List Row → List Row
  add_row row rows = put_in_order (λ a b. is_before (key_of a) (key_of b)) row rows

  -- the row of a key goes
  abbrev pub remove_row : Key → List Row → List Row
  remove_row key [] = []
  remove_row key (row ∷ rows) = if is_key key (key_of row) then rows else row ∷ remove_row key rows

  -- the row of a key becomes another
  abbrev pub change_row : Key → (Row → Row) → List Row → List Row
  change_row key change [] = []
  change_row key change (row ∷ rows) = if is_key key (key_of row) then change row ∷ rows else row ∷ change_row key change rows

  -- a row in its place, instead of the one that had its key
  abbrev pub put_row : Row → List Row → List Row
  put_row row rows = add_row row (remove_row (key_of row) rows)

  -- the row stands before the first of the list
  abbrev pub is_first : Row → List Row → Bool
  is_first row [] = true
  is_first row (next ∷ rows) = is_before (key_of row) (key_of next)

  -- each row stands before the next, and so before all later ones: no key stands twice
  abbrev pub are_in_order : List Row → Bool
  are_in_order [] = true
  are_in_order (row ∷ rows) = is_first row rows && are_in_order rows
