use Rattle.std.proofs.Common.{◌≡◌, ◌∙◌, [], ◌∷◌, Option, None, Some, ap, false, not, sym, true≢false}
use Rattle.std.specs.Option.{option_map_or}
use Rattle.std.specs.Prelude.{is_none}
use Rattle.std.proofs.lemmas.Bool.{not-false, or_parts}
use Rattle.meta_types.specs.Data.{data_of}
use Rattle.meta_types.specs.Keys.{row_at}
use Rattle.meta_types.specs.Labels.{labels_of}
use Rattle.meta_types.specs.Rows.{snap_key}
use Rattle.meta_types.specs.Ops.{lacks}
use Rattle.meta_types.specs.Ops.Snapshots.{is_active}
use Rattle.meta_types.specs.Requests.{outcome}
use Rattle.meta_types.specs.declared.rows.SnapRow.{SnapRow}
use Rattle.meta_types.specs.declared.rows.SnapKind.TheVariants.{Committed}
use Rattle.meta_types.specs.declared.request.Request.TheVariants as R
use Rattle.request_core.specs.Foreseen.{ShowsRow}
use Rattle.request_core.proofs.ListsSound.{none_applies}
use Rattle.request_core.proofs.ShownSnapshots.{snapshot_committed}
use Rattle.request_core.proofs.state.State.show_snap_commit.Goals as goal

-- the row is the one that is committed, over its parent
pub returns-in_ok-row-in-Some : goal.returns-in_ok-row-in-Some
unfolding ShowsRow
returns-in_ok-row-in-Some g c = λ none.
    let asked = c.args.asked.now in
    let state = c.args.self.now.state in
    let at = asked.snapshot in
    let rows = state.records.tables.snapshots in
    let row = c.in-Some.row.now in
    let free = none_applies (outcome state (R.SnapCommit asked)) none in
    let found : Some row ≡ row_at snap_key (at.ns ∷ at.snapshotter ∷ at.name ∷ []) rows =
    c.in-Some.ensures
    ∙ λ i. row_at snap_key ((c.in_ok-key.ensures.1 i).0.ns ∷
    (c.in_ok-key.ensures.1 i).0.snapshotter
    ∷ (c.in_ok-key.ensures.1 i).0.name ∷ []) (c.self.view_is i).state.records.tables.snapshots
    in
    let active = not-false (is_active row.kind)
    (ap (λ (o : Option SnapRow). option_map_or (λ r. not (is_active r.kind)) o false) found
    ∙ free.3) in
    snapshot_committed rows state.records.tables.ingests c.requires.tables.numbered
    at.ns at.snapshotter at.name asked.name row (sym found) free.2 active
    (labels_of asked.labels) (data_of asked.extra) c.in_ok-row-in-Some.row
    (c.in_ok-row-in-Some.ensures.ok ∙ λ i. record row {
      key = record {
        ns = (c.in_ok-key.ensures.1 i).0.ns;
        snapshotter = (c.in_ok-key.ensures.1 i).0.snapshotter;
        name = (c.in_ok-key.ensures.1 i).1;
      };
      kind = Committed;
      labels = (c.in_ok-key.ensures.1 i).2.labels;
      extra = (c.in_ok-key.ensures.1 i).2.extra;
    })
    ∙ sym c.with_parent.ensures

-- where there is none, a fault refuses the request
pub returns-in-None : goal.returns-in-None
unfolding ShowsRow
returns-in-None g c = λ none.
    let asked = c.args.asked.now in
    let state = c.args.self.now.state in
    let at = asked.snapshot in
    let rows = state.records.tables.snapshots in
    let key = at.ns ∷ at.snapshotter ∷ at.name ∷ [] in
    let lost : None ≡ row_at snap_key key rows =
    c.in-None.ensures
    ∙ λ i. row_at snap_key ((c.in_ok-key.ensures.1 i).0.ns ∷
    (c.in_ok-key.ensures.1 i).0.snapshotter
    ∷ (c.in_ok-key.ensures.1 i).0.name ∷ []) (c.self.view_is i).state.records.tables.snapshots
    in
    let free = none_applies (outcome state (R.SnapCommit asked)) none in
    let there = or_parts (lacks state at.ns asked.lease) (is_none (row_at snap_key key rows)) free.1
    in
    absurd (true≢false (ap is_none lost ∙ there.1))
