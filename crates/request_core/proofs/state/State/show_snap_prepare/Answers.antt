use Rattle.std.proofs.Common.{◌≡◌, ◌∙◌, ap, refl, rules, sym}
use Rattle.std.specs.Prelude.{is_some, is_none, ◌&&◌}
use Rattle.std.proofs.lemmas.Bool.{or_parts}
use Rattle.meta_types.specs.Data.{data_of}
use Rattle.meta_types.specs.Labels.{labels_of}
use Rattle.meta_types.specs.Ops.{lacks}
use Rattle.meta_types.specs.Ops.Snapshots.{parent_row}
use Rattle.meta_types.specs.Requests.{outcome}
use Rattle.meta_types.specs.declared.rows.SnapRow.{SnapRow}
use Rattle.meta_types.specs.declared.rows.SnapKind.TheVariants.{Active}
use Rattle.meta_types.specs.declared.request.Request.TheVariants as R
use Rattle.request_core.specs.Foreseen.{ShowsRow}
use Rattle.request_core.proofs.ListsSound.{none_applies}
use Rattle.request_core.proofs.ShownSnapshots.{snapshot_added}
use Rattle.request_core.proofs.state.State.show_snap_prepare.Goals as goal

-- the row is the one that is added, over its parent
pub returns : goal.returns
unfolding ShowsRow
returns g c = λ none.
    let asked = c.args.asked.now in
    let state = c.args.self.now.state in
    let at = asked.snapshot in
    let rows = state.records.tables.snapshots in
    let free = none_applies (outcome state (R.SnapPrepare asked)) none in
    let new : SnapRow = record {
      key = record { ns = at.ns; snapshotter = at.snapshotter; name = at.name };
      kind = Active;
      parent = asked.parent;
      number = state.records.next;
      labels = labels_of asked.labels;
      extra = data_of asked.extra;
    } in
    let number : c.self.inside.records.next ≡ state.records.next =
    λ i. (c.self.view_is i).state.records.next in
    let same : c.in_ok-row.row ≡ new =
    (λ i. (c.in_ok-row.ensures.1 i).0) ∙ λ i. record new { number = number i } in
    let there = or_parts (lacks state at.ns asked.lease)
    (is_some asked.parent && is_none (parent_row rows at.ns at.snapshotter asked.parent)) free.1
    in
    snapshot_added new c.in_ok-row.row rows free.2 there.1 same
    ∙ sym c.with_parent.ensures
