-- What keeps rows sound, once for all kinds.
use Rattle.std.proofs.Common.{◌≡◌, Bool, true, false, List, [], ◌∷◌, refl, sym, ap, ◌∙◌, inl, inr}
use Rattle.std.specs.Prelude.{All, IsTrue, bytes_eq, ◌||◌}
use Rattle.std.specs.List.{list_any}
use Rattle.std.proofs.lemmas.Bool.{cases_Bool, and_parts, and_from, or_cases, or_left, or_right, or_parts}
use Rattle.std.proofs.lemmas.List.Elements.{All-cons, All-head, All-tail}
use Rattle.meta_types.specs.Text.{Text}
use Rattle.meta_types.specs.Keys.{Key, is_key, put_in_order, is_before, is_first, has_row, add_row, remove_row, change_row, are_in_order}
use Rattle.std.specs.Cmp.Lexicographic.{same_text}
use Rattle.meta_types.specs.Rows.{namespace_key}
use Rattle.meta_types.specs.Sound.{AreRows}
use Rattle.meta_types.proofs.Ordered.{in_order_added, in_order_removed}

module _ {Row : Type 0} (key_of : Row → Key) where
  -- what holds of each row holds of each row that is left after a removal
  pub all_removed : (P : Row → Type 0) (key : Key) (rows : List Row) → All P rows → All P (remove_row key_of key rows)
  all_removed P key [] h = h
  all_removed P key (row ∷ rows) h = elim (cases_Bool (is_key key (key_of row))) [
    | inl t ↦ rw t (All-tail P row rows h)
    | inr f ↦ rw f (All-cons P row (remove_row key_of key rows) (All-head P row rows h) (all_removed P key rows (All-tail P row rows h)))
  ]

  -- what holds of each row and of a new one holds of each row after the new one is added
  pub all_added : (P : Row → Type 0) (row : Row) → P row → (rows : List Row) → All P rows → All P (add_row key_of row rows)
  all_added P row p [] h = All-cons P row [] p h
  all_added P row p (next ∷ rows) h = elim (cases_Bool (is_before (key_of row) (key_of next))) [
    | inl t ↦ rw t (All-cons P row (next ∷ rows) p h)
    | inr f ↦ rw f (All-cons P next (add_row key_of row rows) (All-head P next rows h) (all_added P row p rows (All-tail P next rows h)))
  ]

  -- what holds of each row, and is kept by a change, holds of each row after one is changed
  pub all_changed : (P : Row → Type 0) (key : Key) (change : Row → Row) → ((row : Row) → P row → P (change row)) → (rows : List Row) → All P rows → All P (change_row key_of key change rows)
  all_changed P key change keeps [] h = h
  all_changed P key change keeps (row ∷ rows) h = elim (cases_Bool (is_key key (key_of row))) [
    | inl t ↦ rw t (All-cons P (change row) rows (keeps row (All-head P row rows h)) (All-tail P row rows h))
    | inr f ↦ rw f (All-cons P row (change_row key_of key change rows) (All-head P row rows h) (all_changed P key change keeps rows (All-tail P row rows h)))
  ]

  -- where no key changes, the order stays
  first_changed : (before : Row) (key : Key) (change : Row → Row) → ((row : Row) → key_of (change row) ≡ key_of row) → (rows : List Row) → is_first key_of before (change_row key_of key change rows) ≡ is_first key_of before rows
  first_changed before key change same [] = refl
  first_changed before key change same (row ∷ rows) = elim (cases_Bool (is_key key (key_of row))) [
    | inl t ↦ rw (t, same row) refl
    | inr f ↦ rw f refl
  ]

  changed_first : (key : Key) (change : Row → Row) → ((row : Row) → key_of (change row) ≡ key_of row) → (row : Row) (rows : List Row) → is_first key_of (change row) rows ≡ is_first key_of row rows
  changed_first key change same row [] = refl
  changed_first key change same row (next ∷ rows) = ap (λ (k : Key). is_before k (key_of next)) (same row)

  -- rows stay in order if a change keeps the key of its row
  pub in_order_changed : (key : Key) (change : Row → Row) → ((row : Row) → key_of (change row) ≡ key_of row) → (rows : List Row) → are_in_order key_of rows ≡ true → are_in_order key_of (change_row key_of key change rows) ≡ true
  in_order_changed key change same [] o = refl
  in_order_changed key change same (row ∷ rows) o =
      let parts = and_parts (is_first key_of row rows) (are_in_order key_of rows) o in
      elim (cases_Bool (is_key key (key_of row))) [
        | inl t ↦ rw t (and_from (is_first key_of (change row) rows) (are_in_order key_of rows) (changed_first key change same row rows ∙ parts.0) parts.1)
        | inr f ↦ rw f (and_from (is_first key_of row (change_row key_of key change rows)) (are_in_order key_of (change_row key_of key change rows)) (first_changed row key change same rows ∙ parts.0) (in_order_changed key change same rows parts.1))
      ]

  module _ (ns_of : Row → Text) where
    -- rows stay in order and in namespaces that are there, if the new row's key is free and its
    -- namespace there
    pub rows_added : (namespaces : List Text) (row : Row) (rows : List Row) → IsTrue (list_any (bytes_eq (ns_of row)) namespaces) → has_row key_of (key_of row) rows ≡ false → AreRows key_of ns_of namespaces rows → AreRows key_of ns_of namespaces (add_row key_of row rows)
    rows_added namespaces row rows there free s = record {
      in_order = in_order_added key_of row rows s.in_order free;
      named = all_added (λ other. IsTrue (list_any (bytes_eq (ns_of other)) namespaces)) row there rows s.named;
    }

    -- rows stay in order and in namespaces that are there, if one is removed
    pub rows_removed : (namespaces : List Text) (key : Key) (rows : List Row) → AreRows key_of ns_of namespaces rows → AreRows key_of ns_of namespaces (remove_row key_of key rows)
    rows_removed namespaces key rows s = record {
      in_order = in_order_removed key_of key rows s.in_order;
      named = all_removed (λ other. IsTrue (list_any (bytes_eq (ns_of other)) namespaces)) key rows s.named;
    }

    -- rows stay in order and in namespaces that are there, if a change keeps the row's key and
    -- namespace
    pub rows_changed : (namespaces : List Text) (key : Key) (change : Row → Row) → ((row : Row) → key_of (change row) ≡ key_of row) → ((row : Row) → ns_of (change row) ≡ ns_of row) → (rows : List Row) → AreRows key_of ns_of namespaces rows → AreRows key_of ns_of namespaces (change_row key_of key change rows)
    rows_changed namespaces key change same same_ns rows s = record {
      in_order = in_order_changed key change same rows s.in_order;
      named = all_changed (λ other. IsTrue (list_any (bytes_eq (ns_of other)) namespaces)) key change (λ row h. rw (same_ns row) h) rows s.named;
    }

    -- with other namespaces, in which those of the rows still are
    pub rows_among : (old new : List Text) (rows : List Row) → All (λ (row : Row). list_any (bytes_eq (ns_of row)) old ≡ true → list_any (bytes_eq (ns_of row)) new ≡ true) rows → AreRows key_of ns_of old rows → AreRows key_of ns_of new rows
    rows_among old new rows keeps s = record { in_order = s.in_order; named = λ k d lt. keeps k d lt (s.named k d lt) }

-- if a test holds of some item, it holds of some item after one more is put in
pub any_added : {X : Type 0} (p : X → Bool) (before : X → X → Bool) (x : X) (xs : List X) → list_any p xs ≡ true → list_any p (put_in_order before x xs) ≡ true
any_added p before x [] h = absurd cc
any_added p before x (y ∷ ys) h = elim (cases_Bool (before x y)) [
  | inl t ↦ rw t (or_right (p x) (p y || list_any p ys) h)
  | inr f ↦ rw f (elim (or_cases (p y) (list_any p ys) h) [
    | inl holds ↦ or_left (p y) (list_any p (put_in_order before x ys)) holds
    | inr more ↦ or_right (p y) (list_any p (put_in_order before x ys)) (any_added p before x ys more)
  ])
]

-- if a test holds of a new item, it holds of some item after that is put in
pub added_any : {X : Type 0} (p : X → Bool) (before : X → X → Bool) (x : X) (xs : List X) → p x ≡ true → list_any p (put_in_order before x xs) ≡ true
added_any p before x [] h = rw h refl
added_any p before x (y ∷ ys) h = elim (cases_Bool (before x y)) [
  | inl t ↦ rw t (or_left (p x) (p y || list_any p ys) h)
  | inr f ↦ rw f (or_right (p y) (list_any p (put_in_order before x ys)) (added_any p before x ys h))
]

-- a text that none of the list is, is no key of it
pub no_text : (text : Text) (texts : List Text) → list_any (bytes_eq text) texts ≡ false → has_row namespace_key (text ∷ []) texts ≡ false
no_text text [] h = refl
no_text text (next ∷ texts) h =
    let parts = or_parts (bytes_eq text next) (list_any (bytes_eq text) texts) h in
    rw parts.0 (no_text text texts parts.1)

-- a namespace that is used by no row stays no row's when it goes
pub any_removed : (gone text : Text) (texts : List Text) → bytes_eq text gone ≡ false → list_any (bytes_eq text) texts ≡ true → list_any (bytes_eq text) (remove_row namespace_key (gone ∷ []) texts) ≡ true
any_removed gone text [] other h = absurd cc
any_removed gone text (next ∷ texts) other h = elim (cases_Bool (is_key (gone ∷ []) (namespace_key next))) [
  | inl t ↦ (
      let same : gone ≡ next = same_text gone next (sym (and_parts (bytes_eq gone next) true t).0) in
      let apart : bytes_eq text next ≡ false = ap (bytes_eq text) (sym same) ∙ other in
      rw t (rw apart at h))
  | inr f ↦ rw f (elim (or_cases (bytes_eq text next) (list_any (bytes_eq text) texts) h) [
    | inl holds ↦ or_left (bytes_eq text next) (list_any (bytes_eq text) (remove_row namespace_key (gone ∷ []) texts)) holds
    | inr more ↦ or_right (bytes_eq text next) (list_any (bytes_eq text) (remove_row namespace_key (gone ∷ []) texts)) (any_removed gone text texts other more)
  ])
]
