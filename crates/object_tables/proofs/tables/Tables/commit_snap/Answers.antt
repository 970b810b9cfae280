use Rattle.std.proofs.Common.{◌≡◌, ◌∙◌, true, false, not, List, [], ◌∷◌, Some, None, sym, ap, subst}
use Rattle.std.specs.Prelude.{IsTrue}
use Rattle.std.proofs.lemmas.Bool.{not-false}
use Rattle.meta_types.specs.Keys.{row_at, has_row, are_in_order}
use Rattle.meta_types.specs.Text.{Text}
use Rattle.meta_types.specs.Labels.{LabelList}
use Rattle.meta_types.specs.Rows.{Tables, snap_key}
use Rattle.meta_types.specs.Ops.Snapshots.{is_active, committed}
use Rattle.meta_types.specs.declared.rows.SnapRow.{SnapRow}
use Rattle.object_tables.specs.Calls.{committing_fault}
use Rattle.object_tables.proofs.NoFault.{passed}
use Rattle.object_tables.proofs.Committing.{commit_steps}
use Rattle.object_tables.proofs.SnapTablesKept.{snap_committed}
use Rattle.object_tables.proofs.tables.Tables.commit_snap.Goals as goal

-- the tables with the list that a commit leaves
with_committed : (ns snapshotter key name : Text) (labels : LabelList) (extra : Text)
    (tables now : Tables)
    (left : List SnapRow) → left ≡ committed ns snapshotter key name labels extra tables.snapshots
    → tables ≡ now → record tables { snapshots = left }
    ≡ record now { snapshots = committed ns snapshotter key name labels extra now.snapshots }
with_committed ns snapshotter key name labels extra tables now left is same =
    ap (λ (rows : List SnapRow). record tables { snapshots = rows }) is
    ∙ ap (λ (t : Tables).
    record t { snapshots = committed ns snapshotter key name labels extra t.snapshots }) same

-- a commit that isn't refused is of an active snapshot
is_of_active : (ns snapshotter key name : Text) (rows : List SnapRow) (row : SnapRow)
    → row_at snap_key (ns ∷ snapshotter ∷ key ∷ []) rows ≡ Some row
    → committing_fault ns snapshotter key name rows ≡ None → is_active row.kind ≡ true
is_of_active ns snapshotter key name rows row found fine =
    not-false (is_active row.kind) (passed false
    (has_row snap_key (ns ∷ snapshotter ∷ name ∷ []) rows) (not (is_active row.kind))
    (rw found at fine)).2

-- the new row is in before the old one goes
pub returns-clause-ok : goal.returns-clause-ok
returns-clause-ok c =
    let key = c.args.key.now in
    with_committed key.ns key.snapshotter key.name c.args.name c.args.labels c.args.extra _ _
    c.remove.new.self
    (commit_steps key.ns key.snapshotter key.name c.args.name c.args.labels c.args.extra
    c.self.inside.snapshots
    c.in-Some.row.now c.in_ok-row.row c.add.new.self c.remove.new.self
    c.in_ok-row.ensures.ok c.in_ok-add.ensures.ok
    c.remove.ensures.left
    (subst (λ (t : Tables). IsTrue (are_in_order snap_key t.snapshots)) (sym c.self.view_is)
    c.check_commit.ensures.order)
    (subst (λ (t : Tables). Some c.in-Some.row.now
    ≡ row_at snap_key (key.ns ∷ key.snapshotter ∷ key.name ∷ []) t.snapshots) (sym c.self.view_is)
    c.in-Some.ensures)
    (subst (λ (t : Tables). has_row snap_key (key.ns ∷ key.snapshotter ∷ c.args.name ∷ [])
    t.snapshots ≡ false) (sym c.self.view_is) c.in_ok-check_commit.ensures.free)) c.self.view_is

-- the row is as before but for its name, its kind, its labels and its data
pub invariant_of-self-2 : goal.invariant_of-self-2
invariant_of-self-2 c =
    let key = c.args.key.now in
    let rows : List SnapRow = c.self.inside.snapshots in
    let found : row_at snap_key (key.ns ∷ key.snapshotter ∷ key.name ∷ []) rows
    ≡ Some c.in-Some.row.now =
    subst (λ (t : Tables).
    row_at snap_key (key.ns ∷ key.snapshotter ∷ key.name ∷ []) t.snapshots ≡ Some c.in-Some.row.now)
    (sym c.self.view_is) (sym c.in-Some.ensures) in
    let free : has_row snap_key (key.ns ∷ key.snapshotter ∷ c.args.name ∷ []) rows ≡ false =
    subst (λ (t : Tables).
    has_row snap_key (key.ns ∷ key.snapshotter ∷ c.args.name ∷ []) t.snapshots ≡ false)
    (sym c.self.view_is) c.in_ok-check_commit.ensures.free in
    let fine : committing_fault key.ns key.snapshotter key.name c.args.name rows ≡ None =
    subst (λ (t : Tables).
    committing_fault key.ns key.snapshotter key.name c.args.name t.snapshots ≡ None)
    (sym c.self.view_is) c.in_ok-check_commit.ensures.fault in
    rw (commit_steps key.ns key.snapshotter key.name c.args.name c.args.labels c.args.extra rows
    c.in-Some.row.now c.in_ok-row.row c.add.new.self c.remove.new.self c.in_ok-row.ensures.ok
    c.in_ok-add.ensures.ok
    c.remove.ensures.left
    c.self.invariant.snapshots.in_order (sym found) free)
    (snap_committed _ c.self.invariant key.ns key.snapshotter key.name c.args.name c.args.labels
    c.args.extra
    c.in-Some.row.now found
    (is_of_active key.ns key.snapshotter key.name c.args.name rows c.in-Some.row.now found fine)
    free)
