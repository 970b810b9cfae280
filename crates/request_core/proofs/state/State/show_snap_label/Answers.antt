use Rattle.std.proofs.Common.{◌≡◌, ◌∙◌, [], ◌∷◌, Some, ap, refl, rules, sym}
use Rattle.meta_types.specs.Keys.{row_at}
use Rattle.meta_types.specs.Labels.{put_label, takes_label}
use Rattle.meta_types.specs.Rows.{snap_key}
use Rattle.meta_types.specs.Ops.{is_allowed_snapshot}
use Rattle.meta_types.specs.Requests.{outcome}
use Rattle.meta_types.specs.declared.rows.SnapRow.{SnapRow}
use Rattle.meta_types.specs.declared.request.Request.TheVariants as R
use Rattle.request_core.specs.Foreseen.{ShowsRow}
use Rattle.request_core.proofs.ShownRows.{label_taken, unput}
use Rattle.request_core.proofs.ShownSnapshots.{snapshot_changed}
use Rattle.request_core.proofs.state.State.show_snap_label.Goals as goal

-- the row has the label
pub returns : goal.returns
unfolding ShowsRow
returns g c = λ none.
    let object = c.args.snapshot.now in
    let label = c.args.label.now in
    let state = c.args.self.now.state in
    let found : Some c.in-Some.row.now ≡ row_at snap_key
    (object.ns ∷ object.snapshotter ∷ object.name ∷ []) state.records.tables.snapshots =
    c.in-Some.ensures
    ∙ λ i. row_at snap_key ((c.in_ok-key.ensures.1 i).ns ∷ (c.in_ok-key.ensures.1 i).snapshotter
    ∷ (c.in_ok-key.ensures.1 i).name ∷ []) (c.self.view_is i).state.records.tables.snapshots
    in
    snapshot_changed (object.ns ∷ object.snapshotter ∷ object.name ∷ [])
    (λ row. record row { labels = put_label label.key label.value row.labels }) (λ row. refl)
    (λ row. refl)
    state.records.tables.snapshots c.in-Some.row.now
    (record c.in_ok-row.row { labels = c.put.new.self }) (sym found) (search rules)
    ∙ sym c.with_parent.ensures

-- where no fault applies, a label is refused with OutOfMemory only
pub returns-in_err-put : goal.returns-in_err-put
unfolding ShowsRow
returns-in_err-put g c = λ none.
    let object = c.args.snapshot.now in
    let label = c.args.label.now in
    let state = c.args.self.now.state in
    let found : Some c.in-Some.row.now ≡ row_at snap_key
    (object.ns ∷ object.snapshotter ∷ object.name ∷ []) state.records.tables.snapshots =
    c.in-Some.ensures
    ∙ λ i. row_at snap_key ((c.in_ok-key.ensures.1 i).ns ∷ (c.in_ok-key.ensures.1 i).snapshotter
    ∷ (c.in_ok-key.ensures.1 i).name ∷ []) (c.self.view_is i).state.records.tables.snapshots
    in
    let taken = label_taken (λ (r : SnapRow). r.labels) label.key label.value
    (outcome state (R.SnapLabel object label)) (is_allowed_snapshot object)
    (row_at snap_key (object.ns ∷ object.snapshotter ∷ object.name ∷ [])
    state.records.tables.snapshots) c.in-Some.row.now found refl none in
    unput _ c.from_residual-in_err-put.result c.in_err-put.field-0.0
    (takes_label c.text.result.now c.text-2.result.now c.in_ok-row.row.labels)
    c.from_residual-in_err-put.ensures.1 c.in_err-put.ensures.fault
    (rw (c.text.ensures, c.text-2.ensures, c.in_ok-row.ensures.ok) taken)
