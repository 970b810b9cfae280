-- Some of the ingests keep their numbers, and a snapshot whose name was free has no children.
use Rattle.std.proofs.Common.{◌≡◌, ◌<◌, Bool, true, false, not, List, [], ◌∷◌, refl, sym, ap, ◌∙◌}
use Rattle.std.specs.Prelude.{Option, Some, None, IfSome, IsTrue, is_some, is_none, bytes_eq, ◌&&◌, ◌==◌}
use Rattle.std.specs.List.{list_any}
use Rattle.std.specs.Option.{option_map_or}
use Rattle.std.proofs.lemmas.Bool.{and_parts, false_from_ne_true, false≢true}
use Rattle.std.proofs.lemmas.List.Elements.{All-weaker}
use Rattle.std.proofs.lemmas.Slice.Eq.{bytes_eq-Decides}
use Rattle.meta_types.specs.Text.{Text}
use Rattle.meta_types.specs.Keys.{row_at, has_row, add_row}
use Rattle.meta_types.specs.Rows.{snap_key}
use Rattle.meta_types.specs.Ops.Snapshots.{is_committed, parent_row, is_child_of}
use Rattle.meta_types.specs.Sound.{parent_of, HasParent, AreNumbered}
use Rattle.meta_types.specs.declared.rows.IngestRow.{IngestRow}
use Rattle.meta_types.specs.declared.rows.SnapRow.{SnapRow}
use Rattle.object_tables.specs.Calls.{kept}
use Rattle.meta_types.proofs.KeepsSound.{all_added}
use Rattle.object_tables.proofs.PairsKept.{none_of}
use Rattle.object_tables.proofs.RowsKept.{all_kept, pairs_kept}
use Rattle.object_tables.proofs.ParentsKept.{key_above}
use Rattle.object_tables.proofs.NumbersKept.{Apart, TwoIngests}

-- ---- some of the ingests

pub numbered_ingests_kept : (marks : List Bool) (snapshots : List SnapRow) (rows : List IngestRow)
    → AreNumbered snapshots rows → AreNumbered snapshots (kept marks rows)
numbered_ingests_kept marks snapshots rows s = record {
  parents = s.parents;
  snapshots_apart = s.snapshots_apart;
  ingests_apart = pairs_kept TwoIngests marks rows s.ingests_apart;
  apart = All-weaker (λ snap. Apart snap rows) (λ snap. Apart snap (kept marks rows))
      (λ snap all. all_kept (λ (begun : IngestRow). IsTrue (not (snap.number == begun.number)))
      marks rows
      all) snapshots s.apart;
}

-- ---- a snapshot whose name was free has no children

-- a parent that is there isn't one that isn't
childless_row : (ns snapshotter key : Text) (rows : List SnapRow)
    → has_row snap_key (ns ∷ snapshotter ∷ key ∷ []) rows ≡ false → (row : SnapRow)
    → (is_some row.parent && is_none (parent_of rows row)) ≡ false
    → is_child_of ns snapshotter key row ≡ false
childless_row ns snapshotter key rows free row = go row.parent
  where
    same : (a b : Text) → bytes_eq a b ≡ true → a ≡ b
    same a b h = (bytes_eq-Decides a b).0 h

    go : (parent : Option Text)
        → (is_some parent && is_none (parent_row rows row.key.ns row.key.snapshotter parent))
        ≡ false
        → (bytes_eq ns row.key.ns && bytes_eq snapshotter row.key.snapshotter && option_map_or
        (bytes_eq key)
        parent false) ≡ false
    go None there =
        false_from_ne_true
        (bytes_eq ns row.key.ns && bytes_eq snapshotter row.key.snapshotter && false)
        (λ h. false≢true
        (and_parts (bytes_eq ns row.key.ns && bytes_eq snapshotter row.key.snapshotter) false h).1)
    go (Some name) there = false_from_ne_true
        (bytes_eq ns row.key.ns && bytes_eq snapshotter row.key.snapshotter && bytes_eq key name)
        (λ h.
        let parts = and_parts (bytes_eq ns row.key.ns && bytes_eq snapshotter row.key.snapshotter)
        (bytes_eq key name) h in
        let firsts = and_parts (bytes_eq ns row.key.ns) (bytes_eq snapshotter row.key.snapshotter)
        parts.0 in
        let is : (ns ∷ snapshotter ∷ key ∷ []) ≡ key_above row name =
        ap (λ t. t ∷ snapshotter ∷ key ∷ []) (same ns row.key.ns firsts.0)
        ∙ ap (λ t. row.key.ns ∷ t ∷ key ∷ []) (same snapshotter row.key.snapshotter firsts.1)
        ∙ ap (λ t. row.key.ns ∷ row.key.snapshotter ∷ t ∷ []) (same key name parts.1) in
        absent (row_at snap_key (key_above row name) rows)
        (ap (λ k. has_row snap_key k rows) (sym is) ∙ free) there)
      where
        absent : (above : Option SnapRow) → is_some above ≡ false → is_none above ≡ false → ⊥
        absent None n s = absurd cc
        absent (Some one) n s = absurd cc

pub fresh_is_childless : (ns snapshotter key : Text) (new : SnapRow) (rows : List SnapRow)
    (ingests : List IngestRow) → AreNumbered rows ingests
    → has_row snap_key (ns ∷ snapshotter ∷ key ∷ []) rows ≡ false
    → (is_some new.parent && is_none (parent_of rows new)) ≡ false
    → list_any (is_child_of ns snapshotter key) (add_row snap_key new rows) ≡ false
fresh_is_childless ns snapshotter key new rows ingests s free there =
    none_of (is_child_of ns snapshotter key) (add_row snap_key new rows)
    (all_added snap_key (λ row. is_child_of ns snapshotter key row ≡ false) new
    (childless_row ns snapshotter key rows free new there) rows
    (All-weaker (HasParent rows) (λ row. is_child_of ns snapshotter key row ≡ false)
    (λ row has. childless_row ns snapshotter key rows free row (parent_there row has)) rows
    s.parents))
  where
    parent_there : (row : SnapRow) → HasParent rows row
        → (is_some row.parent && is_none (parent_of rows row)) ≡ false
    parent_there row = go row.parent
      where
        go : (parent : Option Text) → IfSome parent
            (λ name. (above : SnapRow)
            × (parent_row rows row.key.ns row.key.snapshotter parent ≡ Some above)
            × IsTrue (is_committed above.kind) × (above.number < row.number))
            → (is_some parent && is_none (parent_row rows row.key.ns row.key.snapshotter parent))
            ≡ false
        go None has = refl
        go (Some name) has = ap is_none has.1
