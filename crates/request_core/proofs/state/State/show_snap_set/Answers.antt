use Rattle.std.proofs.Common.{◌≡◌, ◌∙◌, [], ◌∷◌, Some, option_copied, ap, List, refl, rules, sym}
use Rattle.std.specs.Prelude.{option_map}
use Rattle.meta_types.specs.Ops.{is_allowed_snapshot}
use Rattle.meta_types.specs.Ops.Snapshots.{sets_snapshot}
use Rattle.meta_types.specs.Keys.{row_at}
use Rattle.meta_types.specs.Rows.{snap_key}
use Rattle.meta_types.specs.Shown.{snapshot_shown}
use Rattle.meta_types.specs.declared.rows.SnapRow.{SnapRow}
use Rattle.object_tables.specs.Edits.{snap_with}
use Rattle.request_core.specs.Foreseen.{ShowsRow}
use Rattle.request_core.proofs.SetKinds.{snap_is_set}
use Rattle.request_core.proofs.SetRows.{updating_is}
use Rattle.request_core.proofs.ShownRows.{parts_unmade}
use Rattle.request_core.proofs.ShownSnapshots.{snapshot_changed}
use Rattle.request_core.proofs.state.State.show_snap_set.Goals as goal

-- the parts weren't made
pub returns-in_err-labels : goal.returns-in_err-labels
unfolding ShowsRow
returns-in_err-labels g c = λ none.
    let snapshot = c.args.snapshot.now in
    let update = c.args.update.now in
    let state = c.args.self.now.state in
    let o = sets_snapshot state snapshot update in
    let found = option_copied c.get_snap-found.result in
    let at = row_at snap_key (snapshot.ns ∷ snapshot.snapshotter ∷ snapshot.name ∷ [])
    state.records.tables.snapshots in
    let is : found ≡ at = c.get_snap-found.ensures
    ∙ λ i. row_at snap_key ((c.in_ok-key.ensures.1 i).ns ∷ (c.in_ok-key.ensures.1 i).snapshotter ∷
    (c.in_ok-key.ensures.1 i).name ∷ []) (c.self.view_is i).state.records.tables.snapshots in
    parts_unmade (λ (row : SnapRow). row.labels) (λ row. row.extra) update found _
    c.from_residual-in_err-labels.result c.in_err-labels.field-0.0
    c.from_residual-in_err-labels.ensures.1 c.in_err-labels.ensures
    (sym (updating_is (λ (row : SnapRow). row.labels) (λ row. row.extra) update o
    (is_allowed_snapshot snapshot) ([]) at found is
    c.in_ok-key.ensures.0 refl refl refl refl refl) ∙ none)

-- the row is the one that is put in its place
pub returns : goal.returns
unfolding ShowsRow
returns g c = λ none.
    let snapshot = c.args.snapshot.now in
    let update = c.args.update.now in
    let state = c.args.self.now.state in
    let key = snapshot.ns ∷ snapshot.snapshotter ∷ snapshot.name ∷ [] in
    let rows = state.records.tables.snapshots in
    let found = option_copied c.get_snap-found.result in
    let is : found ≡ row_at snap_key key rows = c.get_snap-found.ensures
    ∙ λ i. row_at snap_key ((c.in_ok-key.ensures.1 i).ns ∷ (c.in_ok-key.ensures.1 i).snapshotter ∷
    (c.in_ok-key.ensures.1 i).name ∷ []) (c.self.view_is i).state.records.tables.snapshots in
    let there : found ≡ Some c.in-Some.row.now = search rules in
    let placed = snap_is_set update key rows c.in_ok-labels.labels c.in_ok-labels.extra found
    (sym is) c.in_ok-labels.ensures.1 in
    ap (λ (all : List SnapRow). option_map (snapshot_shown all) (row_at snap_key key all))
    (sym placed)
    ∙ snapshot_changed key (snap_with c.in_ok-labels.labels c.in_ok-labels.extra) (λ r. refl)
    (λ r. refl) rows
    c.in-Some.row.now c.in_ok-row.row (sym is ∙ there) c.in_ok-row.ensures.ok
    ∙ sym c.with_parent.ensures
