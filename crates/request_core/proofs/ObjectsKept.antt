-- Rows own their objects where the backend has one snapshot more, or where they keep their parents.
use Rattle.std.proofs.Common.{◌≡◌, ℕ, ◌<◌, true, false, List, refl, sym, ap, ◌∙◌, arith}
use Rattle.std.specs.Prelude.{All, Option, Some, None, IfSome, IsTrue, bytes_eq, ◌==◌}
use Rattle.std.specs.List.{list_any}
use Rattle.std.proofs.lemmas.Bool.{and_from, and_right}
use Rattle.std.proofs.lemmas.Bool.Decides.{nat_tests, Decides-eqb}
use Rattle.std.proofs.lemmas.List.Elements.{All-weaker}
use Rattle.std.proofs.lemmas.Slice.Eq.{bytes_eq-Decides}
use Rattle.meta_types.specs.Keys.{put_in_order}
use Rattle.meta_types.specs.Rows.{BackSnap}
use Rattle.meta_types.specs.Changes.{stands_before}
use Rattle.meta_types.specs.Backends.{is_named}
use Rattle.meta_types.specs.Sound.{object_of}
use Rattle.meta_types.specs.declared.rows.SnapRow.{SnapRow}
use Rattle.meta_types.proofs.KeepsSound.{any_added}
use Rattle.meta_types.proofs.Members.{any_from}
use Rattle.meta_types.proofs.ListSearches.{found_is}
use Rattle.object_tables.proofs.PairsKept.{all_put, finds_other, finds_new, all_both}
use Rattle.object_tables.proofs.ParentsKept.{number_above}

-- ---- what rows own

-- the object of a row, over its parent's
abbrev pub HasObject : List BackSnap → List SnapRow → SnapRow → Type 0
HasObject snaps rows row = object_of snaps row.key.snapshotter row.number ≡ Some (record {
  snapshotter = row.key.snapshotter;
  number = row.number;
  parent =
      number_above rows row;
})

-- it is the same where the parent's number is
pub objects_kept : (snaps : List BackSnap) (old new rows : List SnapRow)
    → All (λ row. number_above new row ≡ number_above old row) rows
    → All (HasObject snaps old) rows
    → All (HasObject snaps new) rows
objects_kept snaps old new rows same has =
    all_both (λ row. number_above new row ≡ number_above old row) (HasObject snaps old)
    (HasObject snaps new)
    (λ row e h. h
    ∙ ap (λ n. Some (record { snapshotter = row.key.snapshotter; number = row.number; parent = n }))
    (sym e)) rows same has

module _ (new : BackSnap) (snaps : List BackSnap) where
  abbrev more : List BackSnap
  more = put_in_order stands_before new snaps

  -- one more changes nothing of those with smaller numbers
  pub objects_grown : (rows among : List SnapRow)
      → All (λ (row : SnapRow). row.number < new.number) among
      → All (HasObject snaps rows) among → All (HasObject more rows) among
  objects_grown rows among below has = all_both (λ (row : SnapRow). row.number < new.number)
      (HasObject snaps rows) (HasObject more rows)
      (λ row lt h. finds_other (is_named (row.key.snapshotter, row.number)) stands_before new
      (and_right (bytes_eq new.snapshotter row.key.snapshotter) (new.number == row.number)
      (differ new.number row.number lt)) snaps ∙ h) among below has
    where
      differ : (n m : ℕ) → m < n → (n == m) ≡ false
      differ n m h = grind (arith, nat_tests)

  -- and it is found
  pub object_found : All (λ (snap : BackSnap). snap.number < new.number) snaps
      → object_of more new.snapshotter new.number ≡ Some new
  object_found below = finds_new (is_named (new.snapshotter, new.number)) stands_before new
      (and_from (bytes_eq new.snapshotter new.snapshotter) (new.number == new.number)
      ((bytes_eq-Decides new.snapshotter new.snapshotter).1 refl)
      ((Decides-eqb new.number new.number).1 refl)) snaps
      (All-weaker (λ (snap : BackSnap). snap.number < new.number)
      (λ snap. is_named (new.snapshotter, new.number) snap ≡ false)
      (λ snap lt. and_right (bytes_eq snap.snapshotter new.snapshotter) (snap.number == new.number)
      (differ snap.number new.number lt)) snaps below)
    where
      differ : (n m : ℕ) → n < m → (n == m) ≡ false
      differ n m h = grind (arith, nat_tests)

  abbrev OverOne : List BackSnap → BackSnap → Type 0
  OverOne among snap = IfSome snap.parent
      (λ number. IsTrue (list_any (is_named (snap.snapshotter, number)) among)
      × (number < snap.number))

  -- parents are there as before, where the new one's is
  pub parents_grown : IfSome new.parent
      (λ number. IsTrue (list_any (is_named (new.snapshotter, number)) snaps)
      × (number < new.number))
      → All (OverOne snaps) snaps → All (OverOne more) more
  parents_grown over has = all_put (OverOne more) stands_before new (grown new over) snaps
      (All-weaker (OverOne snaps) (OverOne more) grown snaps has)
    where
      grown : (snap : BackSnap) → OverOne snaps snap → OverOne more snap
      grown snap = go snap.parent
        where
          go : (o : Option ℕ)
              → IfSome o (λ number. IsTrue (list_any (is_named (snap.snapshotter, number)) snaps)
              × (number < snap.number))
              → IfSome o (λ number. IsTrue (list_any (is_named (snap.snapshotter, number)) more)
              × (number < snap.number))
          go None h = h
          go (Some number) h =
              (any_added (is_named (snap.snapshotter, number)) stands_before new snaps h.0, h.1)

-- a row's object is in the backend
pub object_there : (snaps : List BackSnap) (rows : List SnapRow) (row : SnapRow)
    → HasObject snaps rows row
    → list_any (is_named (row.key.snapshotter, row.number)) snaps ≡ true
object_there snaps rows row h =
    let object : BackSnap =
    record {
      snapshotter = row.key.snapshotter;
      number = row.number;
      parent =
          number_above rows row;
    } in
    let found = found_is (is_named (row.key.snapshotter, row.number)) snaps object h in
    any_from (is_named (row.key.snapshotter, row.number)) snaps object found.0 found.1
