-- The backend that a collection leaves is sound: what a row that stays owns stays, and so does the
-- parent of a snapshot that stays.
use Rattle.std.proofs.Common.{◌≡◌, ℕ, ◌<◌, Bool, true, List, length, refl, sym, ap, ◌∙◌, arith, subst, ℤ, inl, inr}
use Rattle.std.specs.Prelude.{Contains, filter, find, Option, Some, None, IfSome, IsTrue, option_and_then, bytes_eq, ◌&&◌, ◌==◌}
use Rattle.std.specs.List.{list_any}
use Rattle.std.specs.Option.{option_map_or}
use Rattle.std.proofs.lemmas.Bool.{and_parts, and_from}
use Rattle.std.proofs.lemmas.Bool.Decides.{Decides-eqb}
use Rattle.std.proofs.lemmas.List.Elements.{All-contains}
use Rattle.std.proofs.lemmas.Slice.Eq.{bytes_eq-Decides}
use Rattle.meta_types.specs.Text.{Text}
use Rattle.meta_types.specs.Rows.{Tables, State, BackSnap}
use Rattle.meta_types.specs.Paths.{Thing, TellsReached}
use Rattle.meta_types.specs.Backends.{BackNames, is_named, object_name, ancestors_of, is_ancestor_of_one, owns_snapshot, snapshot_object_stays}
use Rattle.meta_types.specs.Collected.{snapshot_stays, collected_records}
use Rattle.meta_types.specs.Sound.{parent_of, HasParent, object_of, IsSound}
use Rattle.meta_types.specs.declared.rows.SnapRow.{SnapRow}
use Rattle.meta_types.proofs.Members.{in_filter, from_filter, any_from, found_by_any}
use Rattle.meta_types.proofs.ListSearches.{some_is, no_none, first_of, third_of, one_of_three, found_is, finds, found_again}
use Rattle.meta_types.proofs.TablesAfter.{same_parent, parent_left}
use Rattle.meta_types.proofs.Falling.{one_object, object_above, ancestor_there, parent_is_ancestor, all_ancestors}

-- a snapshot has its name
pub has_name : (snapshotter : Text) (number : ℕ) (snap : BackSnap) → snap.snapshotter ≡ snapshotter → snap.number ≡ number → is_named (snapshotter, number) snap ≡ true
has_name snapshotter number snap s n = and_from (bytes_eq snap.snapshotter snapshotter) (snap.number == number) ((bytes_eq-Decides snap.snapshotter snapshotter).1 s) ((Decides-eqb snap.number number).1 n)

pub name_is : (snapshotter : Text) (number : ℕ) (snap : BackSnap) → is_named (snapshotter, number) snap ≡ true → (snap.snapshotter ≡ snapshotter) × (snap.number ≡ number)
name_is snapshotter number snap h =
    let parts = and_parts (bytes_eq snap.snapshotter snapshotter) (snap.number == number) h in
    ((bytes_eq-Decides snap.snapshotter snapshotter).0 parts.0, (Decides-eqb snap.number number).0 parts.1)

-- a row owns the object with its snapshotter and number
owned : (tables : Tables) (row : SnapRow) (snap : BackSnap) → Contains tables.snapshots row → row.key.snapshotter ≡ snap.snapshotter → row.number ≡ snap.number → owns_snapshot tables snap ≡ true
owned tables row snap c s n = any_from (λ other. bytes_eq other.key.snapshotter snap.snapshotter && other.number == snap.number) tables.snapshots row c
    (and_from (bytes_eq row.key.snapshotter snap.snapshotter) (row.number == snap.number) ((bytes_eq-Decides row.key.snapshotter snap.snapshotter).1 s) ((Decides-eqb row.number snap.number).1 n))

module _ (state : State) (at : ℤ) (failed : BackNames) (reached : Thing → Bool) (tells : TellsReached state.records at reached) (s : IsSound state) where
  abbrev rows : List SnapRow
  rows = state.records.tables.snapshots

  abbrev shards : List BackSnap
  shards = state.backends.snapshots

  abbrev tables : Tables
  tables = (collected_records at reached state.records).tables

  abbrev stays : BackSnap → Bool
  stays = snapshot_object_stays tables shards failed

  abbrev is_failed : BackSnap → Bool
  is_failed snap = list_any (λ name. is_named name snap) failed.snapshots

  -- the object of a row
  abbrev object : List SnapRow → SnapRow → BackSnap
  object among row = record { snapshotter = row.key.snapshotter; number = row.number; parent = option_map_or (λ (above : SnapRow). Some above.number) (parent_of among row) None }

  -- each row has its object
  has_object : (row : SnapRow) → Contains rows row → object_of shards row.key.snapshotter row.number ≡ Some (object rows row)
  has_object row c = All-contains (λ (r : SnapRow). object_of shards r.key.snapshotter r.number ≡ Some (object rows r)) rows row s.backed.objects c

  -- a row that stays has the same parent among those left
  parent_same : (row : SnapRow) → Contains rows row → snapshot_stays reached row ≡ true → parent_of tables.snapshots row ≡ parent_of rows row
  parent_same row c h = same_parent state.records at reached tells row c h (All-contains (HasParent rows) rows row s.tables.numbered.parents c)

  -- it stays where the row does
  pub object_left : (row : SnapRow) → Contains rows row → snapshot_stays reached row ≡ true → object_of (filter stays shards) row.key.snapshotter row.number ≡ Some (object tables.snapshots row)
  object_left row c h =
      let own = owned tables row (object rows row) (in_filter (snapshot_stays reached) rows row c h) refl refl in
      found_again (is_named (row.key.snapshotter, row.number)) stays shards (object rows row) (has_object row c)
      (first_of (owns_snapshot tables (object rows row)) (is_failed (object rows row)) (is_ancestor_of_one shards failed.snapshots (object rows row)) own)
      ∙ ap (λ (o : Option SnapRow). Some (record { snapshotter = row.key.snapshotter; number = row.number; parent = option_map_or (λ (above : SnapRow). Some above.number) o None })) (sym (parent_same row c h))

  -- ---- the parent of what stays

  -- the parent's number is smaller
  pub falls : (snap above : BackSnap) → Contains shards snap → object_above shards snap ≡ Some above → above.number < snap.number
  falls snap above c = go snap.parent (All-contains (λ (one : BackSnap). IfSome one.parent (λ number. IsTrue (list_any (is_named (one.snapshotter, number)) shards) × (number < one.number))) shards snap s.backed.back_parents c)
    where
      go : (o : Option ℕ) → IfSome o (λ number. IsTrue (list_any (is_named (snap.snapshotter, number)) shards) × (number < snap.number))
          → option_and_then (λ number. find (is_named (snap.snapshotter, number)) shards) o ≡ Some above → above.number < snap.number
      go None h e = no_none above e
      go (Some number) h e = (
          let same = (name_is snap.snapshotter number above (found_is (is_named (snap.snapshotter, number)) shards above e).1).1 in
          omega (arith, same, h.1))

  module _ (snap above : BackSnap) (number : ℕ) (c : Contains shards snap) (parent : snap.parent ≡ Some number) (found : find (is_named (snap.snapshotter, number)) shards ≡ Some above) where
    -- the parent that is named is the one found
    is_above : object_above shards snap ≡ Some above
    is_above = ap (option_and_then (λ (n : ℕ). find (is_named (snap.snapshotter, n)) shards)) parent ∙ found

    names : (above.snapshotter ≡ snap.snapshotter) × (above.number ≡ number)
    names = name_is snap.snapshotter number above (found_is (is_named (snap.snapshotter, number)) shards above found).1

    -- where a row owns it, the row's parent owns the parent
    above_owned : owns_snapshot tables snap ≡ true → owns_snapshot tables above ≡ true
    above_owned h =
        let one = found_by_any (λ row. bytes_eq row.key.snapshotter snap.snapshotter && row.number == snap.number) tables.snapshots h in
        let both = from_filter (snapshot_stays reached) rows one.0 one.1 in
        let parts = and_parts (bytes_eq one.0.key.snapshotter snap.snapshotter) (one.0.number == snap.number) one.2 in
        let same_snapshotter = (bytes_eq-Decides one.0.key.snapshotter snap.snapshotter).0 parts.0 in
        let there = (found_is (is_named (one.0.key.snapshotter, one.0.number)) shards (object rows one.0) (has_object one.0 both.0)).0 in
        let same : object rows one.0 ≡ snap = one_object shards s.backed.objects_in_order (object rows one.0) snap there c same_snapshotter ((Decides-eqb one.0.number snap.number).0 parts.1) in
        go one.0 (parent_of rows one.0) (parent_same one.0 both.0 both.1) same_snapshotter (ap (λ (b : BackSnap). b.parent) same ∙ parent)
      where
        go : (row : SnapRow) (o : Option SnapRow) → parent_of tables.snapshots row ≡ o → row.key.snapshotter ≡ snap.snapshotter → option_map_or (λ (r : SnapRow). Some r.number) o None ≡ Some number → owns_snapshot tables above ≡ true
        go row None e same p = no_none number p
        go row (Some top) e same p = (
            let left = parent_left state.records at reached tells row top e in
            owned tables top above left.0 (sym left.1 ∙ same ∙ sym names.0) (some_is top.number number p ∙ sym names.1))

    -- where its removal failed, the parent is an ancestor of one whose removal failed
    above_failed : is_failed snap ≡ true → is_ancestor_of_one shards failed.snapshots above ≡ true
    above_failed h =
        let some : 0 < length shards = omega (arith, c.1) in
        let ancestor = parent_is_ancestor shards (length shards) snap above some is_above in
        any_from (λ one. is_failed one && list_any (is_named (object_name above)) (ancestors_of shards one)) shards snap c
        (and_from (is_failed snap) (list_any (is_named (object_name above)) (ancestors_of shards snap)) h
        (any_from (is_named (object_name above)) (ancestors_of shards snap) above ancestor (has_name above.snapshotter above.number above refl refl)))

    -- and where it is such an ancestor, the parent is too
    above_below : is_ancestor_of_one shards failed.snapshots snap ≡ true → is_ancestor_of_one shards failed.snapshots above ≡ true
    above_below h =
        let one = found_by_any (λ one. is_failed one && list_any (is_named (object_name snap)) (ancestors_of shards one)) shards h in
        let parts = and_parts (is_failed one.0) (list_any (is_named (object_name snap)) (ancestors_of shards one.0)) one.2 in
        let x = found_by_any (is_named (object_name snap)) (ancestors_of shards one.0) parts.1 in
        let named = name_is snap.snapshotter snap.number x.0 x.2 in
        let same : x.0 ≡ snap = one_object shards s.backed.objects_in_order x.0 snap (ancestor_there shards (length shards) one.0 x.0 x.1) c named.0 named.1 in
        let ancestor = all_ancestors shards falls one.0 snap above one.1 (subst (Contains (ancestors_of shards one.0)) same x.1) is_above in
        any_from (λ one. is_failed one && list_any (is_named (object_name above)) (ancestors_of shards one)) shards one.0 one.1
        (and_from (is_failed one.0) (list_any (is_named (object_name above)) (ancestors_of shards one.0)) parts.0
        (any_from (is_named (object_name above)) (ancestors_of shards one.0) above ancestor (has_name above.snapshotter above.number above refl refl)))

    -- so the parent of what stays does, for whichever reason it stays
    pub above_stays : stays snap ≡ true → stays above ≡ true
    above_stays h = elim (one_of_three (owns_snapshot tables snap) (is_failed snap) (is_ancestor_of_one shards failed.snapshots snap) h) [
      | inl own ↦ first_of (owns_snapshot tables above) (is_failed above) (is_ancestor_of_one shards failed.snapshots above) (above_owned own)
      | inr (inl fails) ↦ third_of (owns_snapshot tables above) (is_failed above) (is_ancestor_of_one shards failed.snapshots above) (above_failed fails)
      | inr (inr below) ↦ third_of (owns_snapshot tables above) (is_failed above) (is_ancestor_of_one shards failed.snapshots above) (above_below below)
    ]

  -- and stands in the backend that is left
  pub back_parent_left : (snap : BackSnap) → Contains shards snap → stays snap ≡ true → IfSome snap.parent (λ number. IsTrue (list_any (is_named (snap.snapshotter, number)) (filter stays shards)) × (number < snap.number))
  back_parent_left snap c h = go snap.parent refl (All-contains (λ (one : BackSnap). IfSome one.parent (λ number. IsTrue (list_any (is_named (one.snapshotter, number)) shards) × (number < one.number))) shards snap s.backed.back_parents c)
    where
      go : (o : Option ℕ) → snap.parent ≡ o → IfSome o (λ number. IsTrue (list_any (is_named (snap.snapshotter, number)) shards) × (number < snap.number))
          → IfSome o (λ number. IsTrue (list_any (is_named (snap.snapshotter, number)) (filter stays shards)) × (number < snap.number))
      go None e was = was
      go (Some number) e was = (
          let found = finds (is_named (snap.snapshotter, number)) shards was.0 in
          let is = found_is (is_named (snap.snapshotter, number)) shards found.0 found.1 in
          (any_from (is_named (snap.snapshotter, number)) (filter stays shards) found.0 (in_filter stays shards found.0 is.0 (above_stays snap found.0 number c e found.1 h)) is.1, was.1))
