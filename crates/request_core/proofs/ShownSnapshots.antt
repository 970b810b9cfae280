-- A snapshot is shown with its parent's number, which no request changes.
use Rattle.std.proofs.Common.{◌≡◌, ◌∙◌, ℕ, ◌<◌, Bool, true, false, List, [], ◌∷◌, Option, Some, None, refl, sym, ap, subst, inl, inr}
use Rattle.std.specs.Prelude.{option_map, is_some, is_none, ◌&&◌, IfSome, IsTrue}
use Rattle.std.proofs.lemmas.Bool.{cases_Bool, both_ways}
use Rattle.std.proofs.lemmas.List.Elements.{All-contains}
use Rattle.meta_types.specs.Text.{Text}
use Rattle.meta_types.specs.Labels.{LabelList}
use Rattle.meta_types.specs.Keys.{Key, is_key, row_at, has_row, add_row, remove_row, change_row}
use Rattle.meta_types.specs.Rows.{snap_key}
use Rattle.meta_types.specs.Ops.Snapshots.{parent_row, committed, is_active, is_committed}
use Rattle.meta_types.specs.Sound.{HasParent, AreNumbered}
use Rattle.meta_types.specs.Shown.{snapshot_shown}
use Rattle.meta_types.specs.declared.rows.IngestRow.{IngestRow}
use Rattle.meta_types.specs.declared.rows.SnapRow.{SnapRow}
use Rattle.meta_types.specs.declared.rows.SnapKind.{SnapKind}
use Rattle.meta_types.specs.declared.rows.SnapKind.TheVariants.{Active, View, Committed}
use Rattle.meta_types.specs.declared.reply.ReplyRow.TheVariants as W
use Rattle.meta_types.specs.declared.shown_row.ShownRow.{ShownRow}
use Rattle.meta_types.proofs.ListSearches.{some_is}
use Rattle.row_tables.proofs.NamespaceLists.{keys_same}
use Rattle.object_tables.proofs.RowsKept.{key_itself, row_is, no_row_of, row_removed, row_added}
use Rattle.request_core.proofs.ShownRows.{found_added, found_changed}

-- ---- keys

abbrev first_of : Key → Text
first_of [] = []
first_of (text ∷ key) = text

abbrev rest_of : Key → Key
rest_of [] = []
rest_of (text ∷ key) = key

module _ {Row : Type 0} (key_of : Row → Key) where
  -- a key that no row has isn't that of a row
  not_free : (free key : Key) (rows : List Row) (row : Row) → has_row key_of free rows ≡ false
      → row_at key_of key rows ≡ Some row → is_key free key ≡ false
  not_free free key rows row none found = elim (cases_Bool (is_key free key)) [
    | inl t ↦ absurd (both_ways (has_row key_of free rows) none
        (ap (λ k. has_row key_of k rows) (keys_same free key t) ∙ ap is_some found))
    | inr f ↦ f
  ]

  -- a part that a change keeps is the same of each key's row
  same_part : {X : Type 0} (part : Row → X) (key : Key) (change : Row → Row)
      → ((row : Row) → key_of (change row) ≡ key_of row)
      → ((row : Row) → part (change row) ≡ part row) → (other : Key) (rows : List Row)
      → option_map part (row_at key_of other (change_row key_of key change rows))
      ≡ option_map part (row_at key_of other rows)
  same_part part key change keeps same other [] = refl
  same_part part key change keeps same other (row ∷ rows) =
      elim (cases_Bool (is_key key (key_of row))) [
        | inl t ↦ elim (cases_Bool (is_key other (key_of row))) [
          | inl u ↦ rw (t, keeps row, u, same row) refl
          | inr v ↦ rw (t, keeps row, v) refl
        ]
        | inr f ↦ elim (cases_Bool (is_key other (key_of row))) [
          | inl u ↦ rw (f, u) refl
          | inr v ↦ rw (f, v) (same_part part key change keeps same other rows)
        ]
      ]

-- ---- parents

abbrev pub number_in : SnapRow → ℕ
number_in row = row.number

abbrev pub numbered : List SnapRow → Text → Text → Option Text → Option ℕ
numbered rows ns snapshotter parent = option_map number_in (parent_row rows ns snapshotter parent)

-- a row with the number of its parent
abbrev with_number : SnapRow → Option ℕ → ShownRow
with_number row number = record { row = W.Snap row; parent_number = number }

-- parents have the numbers that they had
parents_changed : (key : Key) (change : SnapRow → SnapRow)
    → ((row : SnapRow) → snap_key (change row) ≡ snap_key row)
    → ((row : SnapRow) → (change row).number ≡ row.number) → (rows : List SnapRow)
    (ns snapshotter : Text) (parent : Option Text)
    → numbered (change_row snap_key key change rows) ns snapshotter parent
    ≡ numbered rows ns snapshotter parent
parents_changed key change keeps same rows ns snapshotter None = refl
parents_changed key change keeps same rows ns snapshotter (Some name) =
    same_part snap_key number_in key change keeps same (ns ∷ snapshotter ∷ name ∷ []) rows

-- so have they where one comes that is new
parents_added : (new : SnapRow) (rows : List SnapRow) (ns snapshotter : Text)
    (parent : Option Text) → has_row snap_key (snap_key new) rows ≡ false
    → (is_some parent && is_none (parent_row rows ns snapshotter parent)) ≡ false
    → parent_row (add_row snap_key new rows) ns snapshotter parent
    ≡ parent_row rows ns snapshotter parent
parents_added new rows ns snapshotter None free there = refl
parents_added new rows ns snapshotter (Some name) free there =
    let key = ns ∷ snapshotter ∷ name ∷ [] in
    let above = some_in (row_at snap_key key rows) there in
    row_added snap_key key new
    (no_row_of snap_key (snap_key new) key rows above.0 free above.1) rows
  where
    some_in : (o : Option SnapRow) → is_none o ≡ false → (row : SnapRow) × (o ≡ Some row)
    some_in None h = absurd cc
    some_in (Some row) h = (row, refl)

-- ---- what is shown

-- a snapshot that was changed is shown as it was changed
pub snapshot_changed : (key : Key) (change : SnapRow → SnapRow)
    → ((row : SnapRow) → snap_key (change row) ≡ snap_key row)
    → ((row : SnapRow) → (change row).number ≡ row.number) → (rows : List SnapRow)
    (row new : SnapRow) → row_at snap_key key rows ≡ Some row → new ≡ change row
    → option_map (snapshot_shown (change_row snap_key key change rows))
    (row_at snap_key key (change_row snap_key key change rows))
    ≡ Some (snapshot_shown rows new)
snapshot_changed key change keeps same rows row new found is =
    let after = change_row snap_key key change rows in
    ap (option_map (snapshot_shown after))
    (found_changed snap_key key change keeps rows
    ∙ ap (option_map change) found
    ∙ ap (λ (r : SnapRow). Some r) (sym is))
    ∙ ap (λ (number : Option ℕ). Some (with_number new number))
    (parents_changed key change keeps same rows new.key.ns new.key.snapshotter new.parent)

-- a new snapshot is shown as it is added
pub snapshot_added : (new is : SnapRow) (rows : List SnapRow)
    → has_row snap_key (snap_key new) rows ≡ false
    → (is_some new.parent
    && is_none (parent_row rows new.key.ns new.key.snapshotter new.parent))
    ≡ false → is ≡ new
    → option_map (snapshot_shown (add_row snap_key new rows))
    (row_at snap_key (snap_key new) (add_row snap_key new rows))
    ≡ Some (snapshot_shown rows is)
snapshot_added new is rows free there same =
    let after = add_row snap_key new rows in
    ap (option_map (snapshot_shown after))
    (found_added snap_key (snap_key new) new (key_itself (snap_key new)) rows free)
    ∙ ap (λ (found : Option SnapRow). Some (with_number new (option_map number_in found)))
    (parents_added new rows new.key.ns new.key.snapshotter new.parent free there)
    ∙ ap (λ (r : SnapRow). Some (snapshot_shown rows r)) (sym same)

-- ---- commits

module _ (rows : List SnapRow) (ingests : List IngestRow) (sound : AreNumbered rows ingests)
    (ns snapshotter key name : Text) (row : SnapRow)
    (found : row_at snap_key (ns ∷ snapshotter ∷ key ∷ []) rows ≡ Some row)
    (free : has_row snap_key (ns ∷ snapshotter ∷ name ∷ []) rows ≡ false)
    (active : is_active row.kind ≡ true) where
  abbrev at_key : Key
  at_key = ns ∷ snapshotter ∷ key ∷ []

  abbrev left : List SnapRow
  left = remove_row snap_key at_key rows

  -- the name is free among those that are left
  free_left : has_row snap_key (ns ∷ snapshotter ∷ name ∷ []) left ≡ false
  free_left =
      ap is_some (row_removed snap_key (ns ∷ snapshotter ∷ name ∷ []) at_key
      (not_free snap_key (ns ∷ snapshotter ∷ name ∷ []) at_key rows row free found) rows)
      ∙ free

  no_kind : (kind : SnapKind) → is_active kind ≡ true → is_committed kind ≡ true → (G : Type 0) → G
  no_kind Active a c G = absurd cc
  no_kind View a c G = absurd cc
  no_kind Committed a c G = absurd cc

  module _ (labels : LabelList) (extra : Text) where
    abbrev made : SnapRow
    made = record row {
      key = record { ns = ns; snapshotter = snapshotter; name = name };
      kind = Committed;
      labels = labels;
      extra = extra;
    }

    -- a committed row is neither the active one nor of the new name, so it stays
    above_stays : (parent : Text) (above : SnapRow)
        → row_at snap_key (ns ∷ snapshotter ∷ parent ∷ []) rows ≡ Some above
        → is_committed above.kind ≡ true
        → row_at snap_key (ns ∷ snapshotter ∷ parent ∷ []) (add_row snap_key made left)
        ≡ row_at snap_key (ns ∷ snapshotter ∷ parent ∷ []) rows
    above_stays parent above there fixed =
        let it = ns ∷ snapshotter ∷ parent ∷ [] in
        let apart : is_key it at_key ≡ false = elim (cases_Bool (is_key it at_key)) [
          | inl t ↦ (
              let one : above ≡ row = some_is above row
              (sym there ∙ ap (λ k. row_at snap_key k rows) (keys_same it at_key t) ∙ found) in
              no_kind row.kind active (ap (λ (r : SnapRow). is_committed r.kind) (sym one) ∙ fixed)
              (is_key it at_key ≡ false))
          | inr f ↦ f
        ] in
        row_added snap_key it made
        (no_row_of snap_key (ns ∷ snapshotter ∷ name ∷ []) it rows above free there) left
        ∙ row_removed snap_key it at_key apart rows

    parent_stays : (parent : Option Text)
        → IfSome parent (λ _. (above : SnapRow)
        × (parent_row rows ns snapshotter parent ≡ Some above)
        × IsTrue (is_committed above.kind) × (above.number < row.number))
        → parent_row (add_row snap_key made left) ns snapshotter parent
        ≡ parent_row rows ns snapshotter parent
    parent_stays None h = refl
    parent_stays (Some parent) h = above_stays parent h.0 h.1 h.2

    -- the parent is one of the namespace and the snapshotter
    has_parent : IfSome row.parent (λ _. (above : SnapRow)
        × (parent_row rows ns snapshotter row.parent ≡ Some above)
        × IsTrue (is_committed above.kind) × (above.number < row.number))
    has_parent =
        let is = row_is snap_key at_key rows row found in
        subst (λ (k : Key). IfSome row.parent (λ _. (above : SnapRow)
        × (parent_row rows (first_of k) (first_of (rest_of k)) row.parent ≡ Some above)
        × IsTrue (is_committed above.kind) × (above.number < row.number))) (sym is.1)
        (All-contains (HasParent rows) rows row sound.parents is.0)

    -- a snapshot that is committed is shown as it then is
    pub snapshot_committed : (new : SnapRow) → new ≡ made
        → option_map (snapshot_shown (committed ns snapshotter key name labels extra rows))
        (row_at snap_key (ns ∷ snapshotter ∷ name ∷ [])
        (committed ns snapshotter key name labels extra rows))
        ≡ Some (snapshot_shown rows new)
    snapshot_committed new is =
        let after = add_row snap_key made left in
        let they_are : committed ns snapshotter key name labels extra rows ≡ after =
        rw found refl in
        subst (λ (all : List SnapRow). option_map (snapshot_shown all)
        (row_at snap_key (ns ∷ snapshotter ∷ name ∷ []) all) ≡ Some (snapshot_shown rows new))
        (sym they_are)
        (ap (option_map (snapshot_shown after))
        (found_added snap_key (ns ∷ snapshotter ∷ name ∷ []) made
        (key_itself (ns ∷ snapshotter ∷ name ∷ [])) left free_left)
        ∙ ap (λ (all : Option SnapRow). Some (with_number made (option_map number_in all)))
        (parent_stays row.parent has_parent)
        ∙ ap (λ (r : SnapRow). Some (snapshot_shown rows r)) (sym is))
