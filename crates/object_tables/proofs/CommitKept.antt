-- A commit keeps parents and numbers: no parent is active, and the number stands under another key.
use Rattle.std.proofs.Common.{◌≡◌, ◌<◌, true, false, List, [], ◌∷◌, refl, sym, ap, ◌∙◌, subst, inl, inr}
use Rattle.std.specs.Prelude.{Contains, Some, None, IfSome, IsTrue}
use Rattle.std.specs.Option.{option_map_or}
use Rattle.std.proofs.lemmas.Bool.{cases_Bool}
use Rattle.std.proofs.lemmas.List.Elements.{All-weaker, All-contains}
use Rattle.meta_types.specs.Text.{Text}
use Rattle.meta_types.specs.Keys.{Key, is_key, is_before, row_at, has_row, add_row, remove_row}
use Rattle.meta_types.specs.Labels.{LabelList}
use Rattle.meta_types.specs.Rows.{snap_key}
use Rattle.meta_types.specs.Ops.Snapshots.{is_committed, is_active, parent_row, committed}
use Rattle.meta_types.specs.Sound.{HasParent, AreNumbered}
use Rattle.meta_types.specs.declared.rows.IngestRow.{IngestRow}
use Rattle.meta_types.specs.declared.rows.SnapRow.{SnapRow}
use Rattle.meta_types.specs.declared.rows.SnapKind.{SnapKind}
use Rattle.meta_types.specs.declared.rows.SnapKind.TheVariants.{Active, View, Committed}
use Rattle.meta_types.proofs.KeepsSound.{all_added, all_removed}
use Rattle.meta_types.proofs.TablesAfter.{above_is}
use Rattle.meta_types.proofs.ListSearches.{some_is}
use Rattle.object_tables.proofs.PairsKept.{pairs_added}
use Rattle.row_tables.proofs.NamespaceLists.{keys_same}
use Rattle.object_tables.proofs.RowsKept.{pairs_removed, pairs_of, no_row_of, row_removed, row_added, free_removed}
use Rattle.object_tables.proofs.ParentsKept.{key_above, number_above, Stays, parent_kept}
use Rattle.object_tables.proofs.NumbersKept.{Apart, TwoSnaps, turned}

active_stays_out : (kind : SnapKind) → is_active kind ≡ true → is_committed kind ≡ true → ⊥
active_stays_out Active a c = absurd cc
active_stays_out Committed a c = absurd cc
active_stays_out View a c = absurd cc

module _ (ns snapshotter key name : Text) (labels : LabelList) (extra : Text) (rows : List SnapRow)
    (row : SnapRow)
  where
    -- the row under its new name
    abbrev pub named : SnapRow
    named =
        record row {
          key = record { ns = ns; snapshotter = snapshotter; name = name };
          kind =
              Committed;
          labels = labels;
          extra = extra;
        }

    abbrev left : List SnapRow
    left = remove_row snap_key (ns ∷ snapshotter ∷ key ∷ []) rows

    abbrev after : List SnapRow
    after = add_row snap_key named left

    module _ (found : row_at snap_key (ns ∷ snapshotter ∷ key ∷ []) rows ≡ Some row)
        (active : is_active row.kind ≡ true)
        (free : has_row snap_key (ns ∷ snapshotter ∷ name ∷ []) rows ≡ false) where
      -- the rows after the commit: the active row is removed, and a committed one added
      pub committed_is : committed ns snapshotter key name labels extra rows ≡ after
      committed_is = rw found refl

      still_free : has_row snap_key (ns ∷ snapshotter ∷ name ∷ []) left ≡ false
      still_free = free_removed snap_key (ns ∷ snapshotter ∷ name ∷ [])
          (ns ∷ snapshotter ∷ key ∷ []) rows free

      -- no parent is active, so all stay
      pub stays_committed : (other : Key) → Stays rows after other
      stays_committed other above e c =
          elim (cases_Bool (is_key other (ns ∷ snapshotter ∷ key ∷ []))) [
            | inl t ↦ (
                let same : above ≡ row = some_is above row
                (sym e ∙ ap (λ k. row_at snap_key k rows)
                (keys_same other (ns ∷ snapshotter ∷ key ∷ []) t)
                ∙ found) in
                absurd (active_stays_out above.kind
                (ap (λ (r : SnapRow). is_active r.kind) same ∙ active) c))
            | inr f ↦ (
                let there = row_removed snap_key other (ns ∷ snapshotter ∷ key ∷ []) f rows ∙ e in (
                  above,
                  row_added snap_key other named
                      (no_row_of snap_key (ns ∷ snapshotter ∷ name ∷ []) other left above still_free
                      there) left
                      ∙ there,
                  c,
                  refl,
                ))
          ]

      -- the row is of the namespace and snapshotter that are named
      pub row_of : Contains rows row × (ns ≡ row.key.ns) × (snapshotter ≡ row.key.snapshotter)
      row_of = (let is = above_is rows named key row found in (is.there, is.ns, is.snapshotter))

      -- and has its parent under its new name too
      pub named_kept : HasParent rows row → HasParent after named
          × (number_above after named ≡ number_above rows row)
      named_kept has = subst (λ (t : Text). kept_as t snapshotter) (sym row_of.1)
          (subst (λ (t : Text). kept_as row.key.ns t) (sym row_of.2)
          (parent_kept rows after row (λ n e. stays_committed (key_above row n)) has))
        where
          kept_as : Text → Text → Type 0
          kept_as a b =
              IfSome row.parent (λ n. (above : SnapRow)
              × (parent_row after a b row.parent ≡ Some above)
              × IsTrue (is_committed above.kind) × (above.number < row.number))
              × (option_map_or (λ (above : SnapRow). Some above.number)
              (parent_row after a b row.parent) None ≡ number_above rows row)

      pub numbered_committed : (ingests : List IngestRow) → AreNumbered rows ingests
          → AreNumbered after ingests
      numbered_committed ingests s = record {
        parents = all_added snap_key (HasParent after) named
            (named_kept (All-contains (HasParent rows) rows row s.parents row_of.0)).0 left
            (all_removed snap_key (HasParent after) (ns ∷ snapshotter ∷ key ∷ []) rows
            (All-weaker (HasParent rows) (HasParent after)
            (λ other has.
            (parent_kept rows after other (λ n e. stays_committed (key_above other n)) has).0)
            rows s.parents));
        snapshots_apart = pairs_added TwoSnaps (λ a b. is_before (snap_key a) (snap_key b)) named
            left
            (pairs_of snap_key TwoSnaps (λ a b h. turned a.number b.number h)
            (ns ∷ snapshotter ∷ key ∷ []) rows row found s.snapshots_apart)
            (pairs_removed snap_key TwoSnaps (ns ∷ snapshotter ∷ key ∷ []) rows s.snapshots_apart);
        ingests_apart = s.ingests_apart;
        apart = all_added snap_key (λ snap. Apart snap ingests) named
            (All-contains (λ snap. Apart snap ingests) rows row s.apart row_of.0) left
            (all_removed snap_key (λ snap. Apart snap ingests) (ns ∷ snapshotter ∷ key ∷ []) rows
            s.apart);
      }
