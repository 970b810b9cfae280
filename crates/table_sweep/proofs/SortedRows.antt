-- Rows in the order of their keys: what a test keeps, names and owners don't
-- see in which order rows arrived.
use Rattle.std.proofs.Common.{◌⊎◌, inl, inr, ◌≡◌, Bool, true, false, List, [], ◌∷◌, map, filter, length, refl, sym, ap, ◌∙◌, if◌then◌else◌}
use Rattle.std.specs.Prelude.{◌||◌, ⊤}
use Rattle.std.specs.List.{AllByRecursion, list_any}
use Rattle.std.specs.Ordering.{is_lt}
use Rattle.std.proofs.lemmas.Bool.{cases_Bool}
use Rattle.meta_types.specs.Keys.{Key, is_key, is_before, add_row}
use Rattle.meta_types.proofs.Ordered.{after, before_trans, keys_total}
use Rattle.meta_types.proofs.Searched.{one_way, even}
use Rattle.row_tables.specs.Arrived.{sorted}
use Rattle.row_tables.proofs.Arrivals.{length_sorted}

-- ---- keys that don't stand before another

further : (a b c : Key) → is_before a b ≡ false → is_before b c ≡ false → is_before a c ≡ false
further a b c h k = elim (cases_Bool (is_before a c)) [
  | inl t ↦ go (cases_Bool (is_key a b)) t
  | inr f ↦ f
]
  where
    go : (is_key a b ≡ true) ⊎ (is_key a b ≡ false) → is_before a c ≡ true → is_before a c ≡ false
    go (inl same) t = absurd (cc (sym t ∙ ap is_lt (keys_total.congr a b c (even a b same)) ∙ k))
    go (inr apart) t = absurd (cc (sym (before_trans b a c (after a b h apart) t) ∙ k))

-- what stands before a key stands before what isn't before that key
leads : (a b c : Key) → is_before a b ≡ true → is_before c b ≡ false → is_before a c ≡ true
leads a b c h k = elim (cases_Bool (is_before a c)) [
  | inl t ↦ t
  | inr f ↦ absurd (cc (sym h ∙ further a c b f k))
]

module _ {Row : Type 0} (key_of : Row → Key) where
  -- none of these stands before the row
  abbrev AllBehind : Row → List Row → Type 0
  AllBehind row rows = AllByRecursion (λ other. is_before (key_of other) (key_of row) ≡ false) rows

  abbrev Ascends : List Row → Type 0
  Ascends [] = ⊤
  Ascends (row ∷ rows) = AllBehind row rows × Ascends rows

  behind_added : (row x : Row) (rows : List Row) → is_before (key_of x) (key_of row) ≡ false
      → AllBehind row rows → AllBehind row (add_row key_of x rows)
  behind_added row x [] n all = (n, tt)
  behind_added row x (next ∷ rows) n all = elim (cases_Bool (is_before (key_of x) (key_of next))) [
    | inl t ↦ rw t (n, all)
    | inr f ↦ rw f (all.0, behind_added row x rows n all.1)
  ]

  behind_all : (row next : Row) (rows : List Row) → is_before (key_of next) (key_of row) ≡ false
      → AllBehind next rows → AllBehind row rows
  behind_all row next [] n all = tt
  behind_all row next (x ∷ rows) n all = (further (key_of x) (key_of next) (key_of row) all.0 n, behind_all row next rows n all.1)

  added_ascends : (row : Row) (rows : List Row) → Ascends rows → Ascends (add_row key_of row rows)
  added_ascends row [] so = (tt, tt)
  added_ascends row (next ∷ rows) so = elim (cases_Bool (is_before (key_of row) (key_of next))) [
    | inl t ↦ rw t ((one_way (key_of row) (key_of next) t, behind_all row next rows (one_way (key_of row) (key_of next) t) so.0), so)
    | inr f ↦ rw f (behind_added next row rows f so.0, added_ascends row rows so.1)
  ]

  sorted_ascends : (rows : List Row) → Ascends (sorted key_of rows)
  sorted_ascends [] = tt
  sorted_ascends (row ∷ rows) = added_ascends row (sorted key_of rows) (sorted_ascends rows)

  -- ---- what a test keeps

  module _ (stays : Row → Bool) where
    -- a row that stands before all goes to the front of those that are kept
    added_first : (row next : Row) (rows : List Row) → is_before (key_of row) (key_of next) ≡ true
        → AllBehind next rows
        → add_row key_of row (filter stays rows) ≡ row ∷ filter stays rows
    added_first row next [] first all = refl
    added_first row next (x ∷ rows) first all = go (stays x) (added_first row next rows first all.1)
      where
        go : (b : Bool) → add_row key_of row (filter stays rows) ≡ row ∷ filter stays rows
            → add_row key_of row (if b then x ∷ filter stays rows else filter stays rows) ≡ row ∷ (if b then x ∷ filter stays rows else filter stays rows)
        go true rest = rw (leads (key_of row) (key_of next) (key_of x) first all.0) refl
        go false rest = rest

    filter_added : (row : Row) (rows : List Row) → Ascends rows
        → filter stays (add_row key_of row rows) ≡ (if stays row then add_row key_of row (filter stays rows) else filter stays rows)
    filter_added row [] so = refl
    filter_added row (next ∷ rows) so = elim (cases_Bool (is_before (key_of row) (key_of next))) [
      | inl t ↦ rw t (front t (stays row))
      | inr f ↦ rw f (behind f (stays next) (filter_added row rows so.1))
    ]
      where
        kept_first : is_before (key_of row) (key_of next) ≡ true → (b : Bool)
            → add_row key_of row (if b then next ∷ filter stays rows else filter stays rows) ≡ row ∷ (if b then next ∷ filter stays rows else filter stays rows)
        kept_first t true = rw t refl
        kept_first t false = added_first row next rows t so.0

        front : is_before (key_of row) (key_of next) ≡ true → (b : Bool)
            → (if b then row ∷ filter stays (next ∷ rows) else filter stays (next ∷ rows)) ≡ (if b then add_row key_of row (filter stays (next ∷ rows)) else filter stays (next ∷ rows))
        front t true = sym (kept_first t (stays next))
        front t false = refl

        behind : is_before (key_of row) (key_of next) ≡ false → (b : Bool)
            → filter stays (add_row key_of row rows) ≡ (if stays row then add_row key_of row (filter stays rows) else filter stays rows)
            → (if b then next ∷ filter stays (add_row key_of row rows) else filter stays (add_row key_of row rows))
            ≡ (if stays row then add_row key_of row (if b then next ∷ filter stays rows else filter stays rows) else (if b then next ∷ filter stays rows else filter stays rows))
        behind f false rest = rest
        behind f true rest = ap (λ (l : List Row). next ∷ l) rest ∙ moved (stays row)
          where
            moved : (b : Bool)
                → next ∷ (if b then add_row key_of row (filter stays rows) else filter stays rows) ≡ (if b then add_row key_of row (next ∷ filter stays rows) else next ∷ filter stays rows)
            moved true = rw f refl
            moved false = refl

    -- the kept ones of the sorted rows are the kept rows, sorted
    pub sorted_filter : (rows : List Row)
        → sorted key_of (filter stays rows) ≡ filter stays (sorted key_of rows)
    sorted_filter [] = refl
    sorted_filter (row ∷ rows) = go (stays row) (sorted_filter rows) ∙ sym (filter_added row (sorted key_of rows) (sorted_ascends rows))
      where
        go : (b : Bool) → sorted key_of (filter stays rows) ≡ filter stays (sorted key_of rows)
            → sorted key_of (if b then row ∷ filter stays rows else filter stays rows) ≡ (if b then add_row key_of row (filter stays (sorted key_of rows)) else filter stays (sorted key_of rows))
        go true rest = ap (add_row key_of row) rest
        go false rest = rest

    -- as many are kept
    pub as_many : (rows : List Row)
        → length (filter stays rows) ≡ length (filter stays (sorted key_of rows))
    as_many rows = sym (length_sorted key_of (filter stays rows)) ∙ ap length (sorted_filter rows)

  -- ---- what some row passes

  any_added : (passes : Row → Bool) (row : Row) (rows : List Row)
      → list_any passes (add_row key_of row rows) ≡ (passes row || list_any passes rows)
  any_added passes row [] = refl
  any_added passes row (next ∷ rows) = elim (cases_Bool (is_before (key_of row) (key_of next))) [
    | inl t ↦ rw t refl
    | inr f ↦ rw f (ap (λ b. passes next || b) (any_added passes row rows) ∙ swapped (passes next) (passes row) (list_any passes rows))
  ]
    where
      swapped : (a b c : Bool) → (a || (b || c)) ≡ (b || (a || c))
      swapped true true c = refl
      swapped true false c = refl
      swapped false true c = refl
      swapped false false c = refl

  pub any_sorted : (passes : Row → Bool) (rows : List Row)
      → list_any passes (sorted key_of rows) ≡ list_any passes rows
  any_sorted passes [] = refl
  any_sorted passes (row ∷ rows) = any_added passes row (sorted key_of rows) ∙ ap (λ b. passes row || b) (any_sorted passes rows)

-- ---- names

module _ {Row Name : Type 0} (name : Row → Name) (key_of : Name → Key) where
  name_added : (row : Row) (rows : List Row)
      → add_row key_of (name row) (map name rows) ≡ map name (add_row (λ other. key_of (name other)) row rows)
  name_added row [] = refl
  name_added row (next ∷ rows) = elim (cases_Bool (is_before (key_of (name row)) (key_of (name next)))) [
    | inl t ↦ rw t refl
    | inr f ↦ rw f (ap (λ (l : List Name). name next ∷ l) (name_added row rows))
  ]

  -- names in order are the names of the rows in order
  pub sorted_names : (rows : List Row)
      → sorted key_of (map name rows) ≡ map name (sorted (λ row. key_of (name row)) rows)
  sorted_names [] = refl
  sorted_names (row ∷ rows) = ap (add_row key_of (name row)) (sorted_names rows) ∙ name_added row (sorted (λ other. key_of (name other)) rows)

  -- so are the names of those that a test keeps
  pub names_kept : (stays : Row → Bool) (rows : List Row)
      → sorted key_of (map name (filter stays rows)) ≡ map name (filter stays (sorted (λ row. key_of (name row)) rows))
  names_kept stays rows = sorted_names (filter stays rows) ∙ ap (map name) (sorted_filter (λ row. key_of (name row)) stays rows)
