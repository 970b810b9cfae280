-- A new snapshot with its object, over its parent's, keeps a state sound.
use Rattle.std.proofs.Common.{◌≡◌, ℕ, ◌+◌, ◌<◌, true, false, not, List, refl, sym, ap, ◌∙◌, arith}
use Rattle.std.specs.Prelude.{All, Contains, Option, Some, None, IfSome, IsTrue, option_map, ◌==◌}
use Rattle.std.specs.List.{list_any}
use Rattle.std.specs.Option.{option_map_or}
use Rattle.std.proofs.lemmas.List.Elements.{All-weaker, All-contains}
use Rattle.meta_types.specs.Text.{Text}
use Rattle.meta_types.specs.Keys.{has_row, add_row, put_in_order}
use Rattle.meta_types.specs.Rows.{State, BackSnap, snap_key}
use Rattle.meta_types.specs.Changes.{stands_before, has_namespace}
use Rattle.meta_types.specs.Backends.{is_named}
use Rattle.meta_types.specs.Ops.Snapshots.{parent_row}
use Rattle.meta_types.specs.Sound.{AreTables, HasParent, IsSound, parent_of, object_of}
use Rattle.meta_types.specs.declared.rows.IngestRow.{IngestRow}
use Rattle.meta_types.specs.declared.rows.SnapRow.{SnapRow}
use Rattle.meta_types.proofs.KeepsSound.{all_added}
use Rattle.meta_types.proofs.TablesAfter.{above_is}
use Rattle.meta_types.proofs.ListSearches.{no_none}
use Rattle.request_core.proofs.ListsSound.{sound_snapshots}
use Rattle.object_tables.proofs.PairsKept.{all_put}
use Rattle.object_tables.proofs.ParentsKept.{key_above, number_above, parent_kept, stays_added}
use Rattle.object_tables.proofs.TablesKept.{snap_added}
use Rattle.request_core.proofs.IngestsSound.{not_above}
use Rattle.request_core.proofs.ObjectOrder.{object_in_order}
use Rattle.request_core.proofs.ObjectsKept.{HasObject, objects_kept, objects_grown, object_found, parents_grown, object_there}

module _ (state : State) (new : SnapRow) (s : IsSound state)
    (numbered : new.number ≡ state.records.next) where
  abbrev rows : List SnapRow
  rows = state.records.tables.snapshots

  abbrev next : ℕ
  next = state.records.next

  abbrev snaps : List BackSnap
  snaps = state.backends.snapshots

  -- ---- the parent

  -- it is one of the rows
  parent_is : (above : SnapRow) → parent_of rows new ≡ Some above
      → Contains rows above × (new.key.snapshotter ≡ above.key.snapshotter)
  parent_is above = go new.parent
    where
      go : (parent : Option Text)
          → parent_row rows new.key.ns new.key.snapshotter parent ≡ Some above
          → Contains rows above × (new.key.snapshotter ≡ above.key.snapshotter)
      go None e = no_none above e
      go (Some name) e = (let is = above_is rows new name above e in (is.there, is.snapshotter))

  -- its number is smaller
  pub parent_below : (above : SnapRow) → parent_of rows new ≡ Some above → above.number < next
  parent_below above e = All-contains (λ (row : SnapRow). row.number < next) rows above
      s.backed.snapshots_below (parent_is above e).0

  -- and its object is there
  parent_object : (above : SnapRow) → parent_of rows new ≡ Some above
      → list_any (is_named (new.key.snapshotter, above.number)) snaps ≡ true
  parent_object above e =
      let is = parent_is above e in
      ap (λ (t : Text). list_any (is_named (t, above.number)) snaps) is.1
      ∙ object_there snaps rows above
      (All-contains (HasObject snaps rows) rows above s.backed.objects is.0)

  module _ (there : has_namespace state.records.tables new.key.ns ≡ true)
      (free : has_row snap_key (snap_key new) rows ≡ false) (has : HasParent rows new) where
    abbrev after : List SnapRow
    after = add_row snap_key new rows

    abbrev number_of : Option SnapRow → Option ℕ
    number_of above = option_map (λ (row : SnapRow). row.number) above

    abbrev object : BackSnap
    object = record {
      snapshotter = new.key.snapshotter;
      number = next;
      parent = number_of (parent_of rows new);
    }

    abbrev more : List BackSnap
    more = put_in_order stands_before object snaps

    -- ---- objects

    -- the parents' numbers are as before
    same_number : (row : SnapRow) → HasParent rows row
        → number_above after row ≡ number_above rows row
    same_number row had =
        (parent_kept rows after row (λ n e. stays_added new rows free (key_above row n)) had).1

    abbrev IsThere : ℕ → Type 0
    IsThere number =
        IsTrue (list_any (is_named (new.key.snapshotter, number)) snaps) × (number < next)

    -- the object stands over the parent's
    over : IfSome object.parent IsThere
    over = go (parent_of rows new) refl
      where
        go : (above : Option SnapRow) → parent_of rows new ≡ above
            → IfSome (number_of above) IsThere
        go None e = tt
        go (Some above) e = (parent_object above e, parent_below above e)

    as_map : (above : Option SnapRow)
        → number_of above ≡ option_map_or (λ (row : SnapRow). Some row.number) above None
    as_map None = refl
    as_map (Some above) = refl

    -- it is the new row's
    new_object : HasObject more after new
    new_object =
        ap (λ n. object_of more new.key.snapshotter n) numbered
        ∙ object_found object snaps s.backed.objects_below
        ∙ ap (λ n. named n object.parent) (sym numbered)
        ∙ ap (named new.number) (as_map (parent_of rows new) ∙ sym (same_number new has))
      where
        named : ℕ → Option ℕ → Option BackSnap
        named n p = Some (record { snapshotter = new.key.snapshotter; number = n; parent = p })

    -- and the others have theirs
    old_objects : All (HasObject more after) rows
    old_objects = objects_kept more rows after rows
        (All-weaker (HasParent rows) (λ row. number_above after row ≡ number_above rows row)
        same_number rows s.tables.numbered.parents)
        (objects_grown object snaps rows rows s.backed.snapshots_below s.backed.objects)

    -- ---- the state

    -- all other numbers are smaller
    pub tables_made : AreTables (record state.records.tables { snapshots = after })
    tables_made = snap_added state.records.tables s.tables new there free has
        (All-weaker (λ (row : SnapRow). row.number < next)
        (λ row. IsTrue (not (new.number == row.number)))
        (λ row h. not_above row.number new.number (omega (arith, h, numbered))) rows
        s.backed.snapshots_below)
        (All-weaker (λ (row : IngestRow). row.number < next)
        (λ row. IsTrue (not (new.number == row.number)))
        (λ row h. not_above row.number new.number (omega (arith, h, numbered)))
        state.records.tables.ingests s.backed.ingests_below)

    pub snap_made : IsSound (record {
      records = record state.records {
        tables = record state.records.tables { snapshots = after };
        next = next + 1;
      };
      backends = record state.backends { snapshots = more };
    })
    snap_made = sound_snapshots state s after (next + 1) more tables_made (record {
      snapshots_below = all_added snap_key (λ (row : SnapRow). row.number < next + 1) new
          (omega (arith, numbered)) rows
          (λ k d lt. (let h = s.backed.snapshots_below k d lt in omega (arith, h)));
      ingests_below = λ k d lt. (let h = s.backed.ingests_below k d lt in omega (arith, h));
      objects_below = all_put (λ (snap : BackSnap). snap.number < next + 1) stands_before object
          (omega arith) snaps
          (λ k d lt. (let h = s.backed.objects_below k d lt in omega (arith, h)));
      begun_below = λ k d lt. (let h = s.backed.begun_below k d lt in omega (arith, h));
      ingests_begun = s.backed.ingests_begun;
      objects = all_added snap_key (HasObject more after) new new_object rows old_objects;
      back_parents = parents_grown object snaps over s.backed.back_parents;
      objects_in_order =
          object_in_order object snaps s.backed.objects_below s.backed.objects_in_order;
      begun_in_order = s.backed.begun_in_order;
    })
