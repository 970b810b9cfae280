-- Rows in order stay so by what a call does to them.
use Rattle.std.proofs.Common.{◌≡◌, false, List, [], ◌∷◌, refl, ap, inl, inr}
use Rattle.std.specs.List.{list_any}
use Rattle.std.specs.Prelude.{Result, Ok, Err, OnOk, OnErr, IsTrue, bytes_eq}
use Rattle.std.proofs.lemmas.Bool.{cases_Bool}
use Rattle.meta_types.specs.Keys.{Key, is_key, has_row, add_row, remove_row, change_row, are_in_order}
use Rattle.meta_types.specs.Text.{Text}
use Rattle.meta_types.specs.Rows.{namespace_key, snap_key}
use Rattle.meta_types.specs.declared.rows.SnapRow.{SnapRow}
use Rattle.object_tables.specs.Calls.{has_children, without_snap}
use Rattle.meta_types.specs.declared.fault.Fault.{Fault}
use Rattle.meta_types.proofs.Ordered.{in_order_added}

module _ {Row : Type 0} (key_of : Row → Key) where
  -- a new key goes to its place, and where memory runs out nothing changes
  pub order_kept : (row : Row) (old new : List Row) (r : Result (Unit {0}) Fault) → OnOk r (new ≡ add_row key_of row old) → OnErr r (new ≡ old)
      → IsTrue (are_in_order key_of old) → has_row key_of (key_of row) old ≡ false → IsTrue (are_in_order key_of new)
  order_kept row old new (Ok u) ok err order free = rw ok (in_order_added key_of row old order free)
  order_kept row old new (Err e) ok err order free = rw err order

  -- what isn't there is not removed
  pub nothing_to_remove : (key : Key) (rows : List Row) → has_row key_of key rows ≡ false → rows ≡ remove_row key_of key rows
  nothing_to_remove key [] h = refl
  nothing_to_remove key (row ∷ rows) h = elim (cases_Bool (is_key key (key_of row))) [
    | inl t ↦ absurd (cc (rw t at h))
    | inr f ↦ rw f (ap (λ others. row ∷ others) (nothing_to_remove key rows (rw f at h)))
  ]

  -- what isn't there is not changed
  pub nothing_to_change : (key : Key) (change : Row → Row) (rows : List Row) → has_row key_of key rows ≡ false → rows ≡ change_row key_of key change rows
  nothing_to_change key change [] h = refl
  nothing_to_change key change (row ∷ rows) h = elim (cases_Bool (is_key key (key_of row))) [
    | inl t ↦ absurd (cc (rw t at h))
    | inr f ↦ rw f (ap (λ others. row ∷ others) (nothing_to_change key change rows (rw f at h)))
  ]

-- the namespace is there where its row is
pub names_row : (ns : Text) (names : List Text) → list_any (bytes_eq ns) names ≡ has_row namespace_key (ns ∷ []) names
names_row ns [] = refl
names_row ns (name ∷ names) = elim (cases_Bool (bytes_eq ns name)) [
  | inl t ↦ rw t refl
  | inr f ↦ rw f (names_row ns names)
]

-- what isn't there doesn't go, whether or not it has children
pub nothing_without : (ns snapshotter key : Text) (rows : List SnapRow) → has_row snap_key (ns ∷ snapshotter ∷ key ∷ []) rows ≡ false → rows ≡ without_snap ns snapshotter key rows
nothing_without ns snapshotter key rows missing = elim (cases_Bool (has_children ns snapshotter key rows)) [
  | inl t ↦ rw t refl
  | inr f ↦ rw f (nothing_to_remove snap_key (ns ∷ snapshotter ∷ key ∷ []) rows missing)
]
