-- Parents are there and numbers apart after each change of snapshots and ingests.
use Rattle.std.proofs.Common.{◌≡◌, ℕ, true, false, not, List, [], ◌∷◌, arith}
use Rattle.std.specs.Prelude.{All, IsTrue, ◌==◌}
use Rattle.std.specs.List.{list_any}
use Rattle.std.proofs.lemmas.Bool.Decides.{nat_tests}
use Rattle.std.proofs.lemmas.List.Elements.{All-weaker}
use Rattle.meta_types.specs.Text.{Text}
use Rattle.meta_types.specs.Keys.{Key, is_before, has_row, add_row, remove_row, change_row}
use Rattle.meta_types.specs.Labels.{LabelList}
use Rattle.meta_types.specs.Rows.{snap_key, ingest_key}
use Rattle.meta_types.specs.Ops.Snapshots.{is_child_of}
use Rattle.meta_types.specs.Sound.{HasParent, AreNumbered}
use Rattle.meta_types.specs.declared.rows.IngestRow.{IngestRow}
use Rattle.meta_types.specs.declared.rows.SnapRow.{SnapRow}
use Rattle.meta_types.proofs.KeepsSound.{all_added, all_removed, all_changed}
use Rattle.object_tables.proofs.PairsKept.{pairs_added, each_fails, all_both}
use Rattle.object_tables.proofs.RowsKept.{pairs_removed, pairs_changed}
use Rattle.object_tables.proofs.ParentsKept.{
  key_above,
  parent_kept,
  stays_added,
  stays_removed,
  other_parent,
  reset,
  stays_reset,
}

-- ---- numbers of ingests

-- the number is that of no ingest
abbrev pub Apart : SnapRow → List IngestRow → Type 0
Apart snap ingests = All (λ (begun : IngestRow). IsTrue (not (snap.number == begun.number))) ingests

-- apart in the other order too
pub turned : (a b : ℕ) → not (a == b) ≡ true → not (b == a) ≡ true
turned a b h = grind (arith, nat_tests)

-- the number isn't the snapshot's
abbrev NotIts : ℕ → SnapRow → Type 0
NotIts number snap = IsTrue (not (snap.number == number))

-- two ingests, or two snapshots, of different numbers
abbrev pub TwoIngests : IngestRow → IngestRow → Type 0
TwoIngests a b = IsTrue (not (a.number == b.number))

abbrev pub TwoSnaps : SnapRow → SnapRow → Type 0
TwoSnaps a b = IsTrue (not (a.number == b.number))

pub numbered_ingest_added : (snapshots : List SnapRow) (row : IngestRow) (rows : List IngestRow)
    → All (λ (other : IngestRow). IsTrue (not (row.number == other.number))) rows
    → All (λ (snap : SnapRow). IsTrue (not (snap.number == row.number))) snapshots
    → AreNumbered snapshots rows → AreNumbered snapshots (add_row ingest_key row rows)
numbered_ingest_added snapshots row rows fresh free s = record {
  parents = s.parents;
  snapshots_apart = s.snapshots_apart;
  ingests_apart = pairs_added TwoIngests (λ a b. is_before (ingest_key a) (ingest_key b)) row rows
      (All-weaker (TwoIngests row) (λ other. TwoIngests row other × TwoIngests other row)
      (λ other h. (h, turned row.number other.number h)) rows fresh) s.ingests_apart;
  apart = all_both (NotIts row.number) (λ snap. Apart snap rows)
      (λ snap. Apart snap (add_row ingest_key row rows))
      (λ snap one all. all_added ingest_key
      (λ (begun : IngestRow). IsTrue (not (snap.number == begun.number))) row one rows all)
      snapshots free s.apart;
}

pub numbered_ingest_removed : (snapshots : List SnapRow) (key : Key) (rows : List IngestRow)
    → AreNumbered snapshots rows → AreNumbered snapshots (remove_row ingest_key key rows)
numbered_ingest_removed snapshots key rows s = record {
  parents = s.parents;
  snapshots_apart = s.snapshots_apart;
  ingests_apart = pairs_removed ingest_key TwoIngests key rows s.ingests_apart;
  apart = All-weaker (λ snap. Apart snap rows) (λ snap. Apart snap (remove_row ingest_key key rows))
      (λ snap all. all_removed ingest_key
      (λ (begun : IngestRow). IsTrue (not (snap.number == begun.number)))
      key rows all) snapshots s.apart;
}

-- a change that leaves the number
pub numbered_ingest_changed : (snapshots : List SnapRow) (key : Key) (change : IngestRow
    → IngestRow)
    → ((row : IngestRow) → (change row).number ≡ row.number)
    → (rows : List IngestRow) → AreNumbered snapshots rows
    → AreNumbered snapshots (change_row ingest_key key change rows)
numbered_ingest_changed snapshots key change same rows s = record {
  parents = s.parents;
  snapshots_apart = s.snapshots_apart;
  ingests_apart = pairs_changed ingest_key TwoIngests key change
      (λ a b h. (rw (same a) h, rw (same b) h)) rows s.ingests_apart;
  apart = All-weaker (λ snap. Apart snap rows)
      (λ snap. Apart snap (change_row ingest_key key change rows))
      (λ snap all. all_changed ingest_key
      (λ (begun : IngestRow). IsTrue (not (snap.number == begun.number)))
      key change (λ begun h. rw (same begun) h) rows all) snapshots s.apart;
}

-- ---- numbers of snapshots

pub numbered_snap_added : (ingests : List IngestRow) (new : SnapRow) (rows : List SnapRow)
    → has_row snap_key (snap_key new) rows ≡ false → HasParent rows new
    → All (λ (other : SnapRow). IsTrue (not (new.number == other.number))) rows
    → All (λ (begun : IngestRow). IsTrue (not (new.number == begun.number))) ingests
    → AreNumbered rows ingests → AreNumbered (add_row snap_key new rows) ingests
numbered_snap_added ingests new rows free has fresh none s =
    let after = add_row snap_key new rows in
    let kept : (row : SnapRow) → HasParent rows row
    → HasParent after row =
    λ row was.
    (parent_kept rows after row (λ name e. stays_added new rows free (key_above row name)) was).0 in
    record {
      parents = all_added snap_key (HasParent after) new (kept new has) rows
          (All-weaker (HasParent rows) (HasParent after) kept rows s.parents);
      snapshots_apart = pairs_added TwoSnaps (λ a b. is_before (snap_key a) (snap_key b)) new rows
          (All-weaker (TwoSnaps new) (λ other. TwoSnaps new other × TwoSnaps other new)
          (λ other h. (h, turned new.number other.number h)) rows fresh) s.snapshots_apart;
      ingests_apart = s.ingests_apart;
      apart = all_added snap_key (λ snap. Apart snap ingests) new none rows s.apart;
    }

pub numbered_snap_removed : (ingests : List IngestRow) (ns snapshotter key : Text)
    (rows : List SnapRow)
    → list_any (is_child_of ns snapshotter key) rows ≡ false → AreNumbered rows ingests
    → AreNumbered (remove_row snap_key (ns ∷ snapshotter ∷ key ∷ []) rows) ingests
numbered_snap_removed ingests ns snapshotter key rows childless s =
    let gone : Key = ns ∷ snapshotter ∷ key ∷ [] in
    let after = remove_row snap_key gone rows in
    record {
      parents = all_removed snap_key (HasParent after) gone rows
          (all_both (λ row. is_child_of ns snapshotter key row ≡ false) (HasParent rows)
          (HasParent after)
          (λ row no has. (parent_kept rows after row
          (λ name e. stays_removed gone (key_above row name) rows
          (other_parent ns snapshotter key row name no e)) has).0)
          rows (each_fails (is_child_of ns snapshotter key) rows childless) s.parents);
      snapshots_apart = pairs_removed snap_key TwoSnaps gone rows s.snapshots_apart;
      ingests_apart = s.ingests_apart;
      apart = all_removed snap_key (λ snap. Apart snap ingests) gone rows s.apart;
    }

pub numbered_snap_reset : (ingests : List IngestRow) (key : Key)
    (labels_in : SnapRow → LabelList) (extra_in : SnapRow → Text)
    (rows : List SnapRow) → AreNumbered rows ingests
    → AreNumbered (change_row snap_key key (reset labels_in extra_in) rows) ingests
numbered_snap_reset ingests key labels_in extra_in rows s =
    let change : SnapRow → SnapRow = reset labels_in extra_in in
    let after = change_row snap_key key change rows in
    record {
      parents = all_changed snap_key (HasParent after) key change (λ row has. has) rows
          (All-weaker (HasParent rows) (HasParent after)
          (λ row has. (parent_kept rows after row
          (λ name e. stays_reset key (key_above row name) labels_in extra_in rows)
          has).0) rows s.parents);
      snapshots_apart = pairs_changed snap_key TwoSnaps key change (λ a b h. (h, h))
          rows s.snapshots_apart;
      ingests_apart = s.ingests_apart;
      apart = all_changed snap_key (λ snap. Apart snap ingests) key change
          (λ snap all. all) rows s.apart;
    }
