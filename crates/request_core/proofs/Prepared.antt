-- The number of a new snapshot is free, and its parent's object is there.
use Rattle.std.proofs.Common.{◌≡◌, ℕ, ◌<◌, Bool, true, false, not, List, [], ◌∷◌, Option, Some, None, refl, sym, ap, ◌∙◌, subst, inl, inr}
use Rattle.std.specs.Prelude.{All, ◌==◌, ◌&&◌, bytes_eq, is_some, is_none, option_map}
use Rattle.std.specs.List.{list_any}
use Rattle.std.specs.Option.{option_map_or}
use Rattle.std.specs.Cmp.Lexicographic.{same_text}
use Rattle.std.proofs.lemmas.Bool.{cases_Bool, and_parts, or_from, or_parts, and_right}
use Rattle.std.proofs.lemmas.List.Elements.{All-head, All-tail}
use Rattle.meta_types.specs.Text.{Text}
use Rattle.meta_types.specs.Keys.{is_key, row_at, has_row}
use Rattle.meta_types.specs.Rows.{Tables, BackSnap, snap_key}
use Rattle.meta_types.specs.Changes.{has_namespace}
use Rattle.meta_types.specs.Faults.{least_of}
use Rattle.meta_types.specs.Backends.{is_named}
use Rattle.meta_types.specs.Ops.Snapshots.{parent_row}
use Rattle.meta_types.specs.declared.rows.SnapRow.{SnapRow}
use Rattle.object_tables.specs.Calls.{adding_snap_fault}
use Rattle.request_core.proofs.FreeNumbers.{apart}
use Rattle.request_core.proofs.ObjectsKept.{HasObject, object_there}

-- ---- the number is free

pub object_free : (snapshotter : Text) (n : ℕ) (snaps : List BackSnap)
    → All (λ (snap : BackSnap). snap.number < n) snaps
    → list_any (is_named (snapshotter, n)) snaps ≡ false
object_free snapshotter n [] h = refl
object_free snapshotter n (snap ∷ snaps) h =
    let below = All-head (λ (other : BackSnap). other.number < n) snap snaps h in
    or_from (is_named (snapshotter, n) snap) (list_any (is_named (snapshotter, n)) snaps)
    (and_right (bytes_eq snap.snapshotter snapshotter) (snap.number == n) (apart snap.number n below))
    (object_free snapshotter n snaps (All-tail (λ (other : BackSnap). other.number < n) snap snaps h))

-- ---- the parent's object is there

-- the row of a key has that snapshotter, and what all rows have
module _ (P : SnapRow → Type 0) where
  at_key : (ns snapshotter name : Text) (rows : List SnapRow) (row : SnapRow)
      → row_at snap_key (ns ∷ snapshotter ∷ name ∷ []) rows ≡ Some row → All P rows
      → (snapshotter ≡ row.key.snapshotter) × P row
  at_key ns snapshotter name [] row h all = absurd cc
  at_key ns snapshotter name (next ∷ rows) row h all =
      elim (cases_Bool (is_key (ns ∷ snapshotter ∷ name ∷ []) (snap_key next))) [
        | inl t ↦ (
            let here : Some next ≡ Some row = rw t at h in
            let same : next ≡ row = cc in
            let later = (and_parts (bytes_eq ns next.key.ns) _ t).1 in
            let second = (and_parts (bytes_eq snapshotter next.key.snapshotter) _ later).0 in
            subst (λ (r : SnapRow). (snapshotter ≡ r.key.snapshotter) × P r) same
            (same_text snapshotter next.key.snapshotter (sym second), All-head P next rows all))
        | inr f ↦ at_key ns snapshotter name rows row (rw f at h) (All-tail P next rows all)
      ]

module _ (rows : List SnapRow) (snaps : List BackSnap) where
  held_above : (ns snapshotter : Text) (above : Option SnapRow) (parent : Option Text)
      → parent_row rows ns snapshotter parent ≡ above → All (HasObject snaps rows) rows
      → option_map_or (λ n. list_any (is_named (snapshotter, n)) snaps)
      (option_map (λ (row : SnapRow). row.number) above) true ≡ true
  held_above ns snapshotter None parent h all = refl
  held_above ns snapshotter (Some row) None h all = absurd cc
  held_above ns snapshotter (Some row) (Some name) h all =
      let there = at_key (HasObject snaps rows) ns snapshotter name rows row h all in
      ap (λ t. list_any (is_named (t, row.number)) snaps) there.0
      ∙ object_there snaps rows row there.1

  pub parent_held : (ns snapshotter : Text) (parent : Option Text)
      → All (HasObject snaps rows) rows
      → option_map_or (λ n. list_any (is_named (snapshotter, n)) snaps)
      (option_map (λ (row : SnapRow). row.number) (parent_row rows ns snapshotter parent)) true
      ≡ true
  parent_held ns snapshotter parent all =
      held_above ns snapshotter (parent_row rows ns snapshotter parent) parent refl all

-- ---- what isn't refused

no_fault : (missing there forbidden : Bool) → least_of false missing there forbidden ≡ None
    → (missing ≡ false) × (there ≡ false)
no_fault true there forbidden h = absurd cc
no_fault false true forbidden h = absurd cc
no_fault false false true h = absurd cc
no_fault false false false h = (refl, refl)

-- the key of a row that is added is free, and its parent there
pub added_fine : (tables : Tables) (row : SnapRow) → adding_snap_fault tables row ≡ None
    → (has_row snap_key (snap_key row) tables.snapshots ≡ false)
    × ((is_some row.parent
    && is_none (parent_row tables.snapshots row.key.ns row.key.snapshotter row.parent)) ≡ false)
added_fine tables row fine =
    let none = no_fault _ _ _ fine in
    (none.1, (or_parts (not (has_namespace tables row.key.ns)) _ none.0).1)
