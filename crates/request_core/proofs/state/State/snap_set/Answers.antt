use Rattle.std.proofs.Common.{◌≡◌, ◌∙◌, [], ◌∷◌, option_copied, refl, rules, sym}
use Rattle.meta_types.specs.Keys.{row_at}
use Rattle.meta_types.specs.Rows.{snap_key}
use Rattle.meta_types.specs.Ops.{snapshot_key, is_allowed_snapshot}
use Rattle.meta_types.specs.Ops.Snapshots.{sets_snapshot}
use Rattle.meta_types.specs.declared.rows.SnapRow.{SnapRow}
use Rattle.request_core.specs.Follows.{AnswersExactly}
use Rattle.request_core.proofs.SetRows.{updating_is, parts_refused}
use Rattle.request_core.proofs.SetKinds.{snap_is_set}
use Rattle.request_core.proofs.state.State.snap_set.Goals as goal

-- the parts weren't made
pub returns-in_err-labels : goal.returns-in_err-labels
unfolding AnswersExactly
returns-in_err-labels g c =
    let snapshot = c.args.snapshot.now in
    let update = c.args.update.now in
    let state = c.args.self.now.state in
    let o = sets_snapshot state snapshot update in
    let found = option_copied c.get_snap-found.result in
    let at = row_at snap_key (snapshot_key snapshot) state.records.tables.snapshots in
    let is : found ≡ at = c.get_snap-found.ensures
    ∙ λ i. row_at snap_key ((c.in_ok-key.ensures.1 i).ns ∷ (c.in_ok-key.ensures.1 i).snapshotter
    ∷ (c.in_ok-key.ensures.1 i).name ∷ []) (c.self.view_is i).state.records.tables.snapshots in
    parts_refused (λ (row : SnapRow). row.labels) (λ row. row.extra) update found c.args.self.now
    o c.from_residual-in_err-labels.result c.in_err-labels.field-0.0
    c.from_residual-in_err-labels.ensures.1 c.in_err-labels.ensures
    (updating_is (λ (row : SnapRow). row.labels) (λ row. row.extra) update o
    (is_allowed_snapshot snapshot) ([]) at found is
    c.in_ok-key.ensures.0 refl refl refl refl refl)

-- what was made stands in the place of what was there
pub returns : goal.returns
unfolding AnswersExactly
returns g c =
    let snapshot = c.args.snapshot.now in
    let update = c.args.update.now in
    let state = c.args.self.now.state in
    let o = sets_snapshot state snapshot update in
    let found = option_copied c.get_snap-found.result in
    let at = row_at snap_key (snapshot_key snapshot) state.records.tables.snapshots in
    let is : found ≡ at = c.get_snap-found.ensures
    ∙ λ i. row_at snap_key ((c.in_ok-key.ensures.1 i).ns ∷ (c.in_ok-key.ensures.1 i).snapshotter
    ∷ (c.in_ok-key.ensures.1 i).name ∷ []) (c.self.view_is i).state.records.tables.snapshots in
    let free = updating_is (λ (row : SnapRow). row.labels) (λ row. row.extra) update o
    (is_allowed_snapshot snapshot) ([]) at found is
    c.in_ok-key.ensures.0 refl refl refl refl refl in
    let placed = snap_is_set update (c.in_ok-key.key.ns ∷ c.in_ok-key.key.snapshotter
    ∷ c.in_ok-key.key.name ∷ [])
    c.self.inside.records.tables.snapshots
    c.in_ok-labels.labels c.in_ok-labels.extra found (sym c.get_snap-found.ensures)
    c.in_ok-labels.ensures.1 in
    (free ∙ c.in_ok-labels.ensures.0, refl, search (rules, placed))
