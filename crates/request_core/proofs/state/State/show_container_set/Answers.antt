use Rattle.std.proofs.Common.{◌≡◌, ◌∙◌, [], ◌∷◌, Some, option_copied, ap, refl, rules, sym}
use Rattle.std.specs.Prelude.{option_map}
use Rattle.meta_types.specs.Text.{is_short_name, is_name}
use Rattle.meta_types.specs.Changes.{is_allowed_if}
use Rattle.meta_types.specs.Ops.{is_allowed_name}
use Rattle.meta_types.specs.Ops.Containers.{are_together, sets_container}
use Rattle.meta_types.specs.Keys.{row_at}
use Rattle.meta_types.specs.Rows.{container_key}
use Rattle.meta_types.specs.Shown.{plain_row}
use Rattle.meta_types.specs.declared.rows.ContainerRow.{ContainerRow}
use Rattle.meta_types.specs.declared.reply.ReplyRow.TheVariants as W
use Rattle.object_tables.specs.Edits.{container_with}
use Rattle.request_core.specs.Foreseen.{ShowsRow}
use Rattle.request_core.proofs.SetKinds.{container_is_set}
use Rattle.request_core.proofs.SetRows.{updating_is}
use Rattle.request_core.proofs.ShownRows.{changed_shown, parts_unmade}
use Rattle.request_core.proofs.state.State.show_container_set.Goals as goal

-- the parts weren't made
pub returns-in_err-labels : goal.returns-in_err-labels
unfolding ShowsRow
returns-in_err-labels g c = λ none.
    let asked = c.args.asked.now in
    let state = c.args.self.now.state in
    let o = sets_container state asked in
    let found = option_copied c.get_container-found.result in
    let at = row_at container_key (asked.container.ns ∷ asked.container.name ∷ [])
    state.records.tables.containers in
    let is : found ≡ at = c.get_container-found.ensures
    ∙ λ i. row_at container_key ((c.in_ok-ns.ensures.1 i).0 ∷ (c.in_ok-ns.ensures.1 i).1 ∷ [])
    (c.self.view_is i).state.records.tables.containers in
    parts_unmade (λ (row : ContainerRow). row.labels) (λ row. row.extra) asked.update found _
    c.from_residual-in_err-labels.result c.in_err-labels.field-0.0
    c.from_residual-in_err-labels.ensures.1 c.in_err-labels.ensures
    (sym (updating_is (λ (row : ContainerRow). row.labels) (λ row. row.extra) asked.update o
    (is_allowed_name asked.container) (is_allowed_if is_short_name asked.snapshotter ∷ is_allowed_if
    is_name asked.key ∷ are_together asked.snapshotter asked.key ∷ []) at found is
    c.in_ok-ns.ensures.0 c.in_ok-snapshot.ensures.0 refl refl refl refl) ∙ none)

-- the row is the one that is put in its place
pub returns : goal.returns
unfolding ShowsRow
returns g c = λ none.
    let asked = c.args.asked.now in
    let state = c.args.self.now.state in
    let key = asked.container.ns ∷ asked.container.name ∷ [] in
    let rows = state.records.tables.containers in
    let found = option_copied c.get_container-found.result in
    let is : found ≡ row_at container_key key rows = c.get_container-found.ensures
    ∙ λ i. row_at container_key ((c.in_ok-ns.ensures.1 i).0 ∷ (c.in_ok-ns.ensures.1 i).1 ∷ [])
    (c.self.view_is i).state.records.tables.containers in
    let there : found ≡ Some c.in-Some.row.now = search rules in
    let placed = container_is_set asked key rows c.in_ok-snapshot.snapshot
    c.in_ok-snapshot-2.snapshot
    c.in_ok-labels.labels c.in_ok-labels.extra found
    c.in_ok-snapshot.ensures.1 (sym is) c.in_ok-labels.ensures.1 c.in_ok-snapshot-2.ensures.ok in
    ap (λ all. option_map (λ (r : ContainerRow). plain_row (W.Container r))
    (row_at container_key key all)) (sym placed)
    ∙ changed_shown container_key (λ (r : ContainerRow). plain_row (W.Container r)) key
    (container_with c.in_ok-snapshot-2.snapshot c.in_ok-labels.labels c.in_ok-labels.extra)
    (λ r. refl) rows
    c.in-Some.row.now c.in_ok-row.row (sym is ∙ there) c.in_ok-row.ensures.ok
    ∙ sym c.plain.ensures
