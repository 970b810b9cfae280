use Rattle.std.proofs.Common.{◌≡◌, ◌∙◌, [], ◌∷◌, option_copied, refl, rules, sym}
use Rattle.meta_types.specs.Text.{is_short_name, is_name}
use Rattle.meta_types.specs.Changes.{is_allowed_if}
use Rattle.meta_types.specs.Keys.{row_at}
use Rattle.meta_types.specs.Rows.{container_key}
use Rattle.meta_types.specs.Ops.{name_key, is_allowed_name}
use Rattle.meta_types.specs.Ops.Containers.{are_together, sets_container}
use Rattle.meta_types.specs.declared.rows.ContainerRow.{ContainerRow}
use Rattle.request_core.specs.Follows.{AnswersExactly}
use Rattle.request_core.proofs.SetRows.{updating_is, parts_refused}
use Rattle.request_core.proofs.SetKinds.{container_is_set}
use Rattle.request_core.proofs.state.State.container_set.Goals as goal

-- the parts weren't made
pub returns-in_err-labels : goal.returns-in_err-labels
unfolding AnswersExactly
returns-in_err-labels g c =
    let asked = c.args.asked.now in
    let state = c.args.self.now.state in
    let o = sets_container state asked in
    let found = option_copied c.get_container-found.result in
    let at = row_at container_key (name_key asked.container) state.records.tables.containers in
    let is : found ≡ at = c.get_container-found.ensures
    ∙ λ i. row_at container_key ((c.in_ok-ns.ensures.1 i).0 ∷ (c.in_ok-ns.ensures.1 i).1 ∷ [])
    (c.self.view_is i).state.records.tables.containers in
    parts_refused (λ (row : ContainerRow). row.labels) (λ row. row.extra) asked.update found
    c.args.self.now
    o c.from_residual-in_err-labels.result c.in_err-labels.field-0.0
    c.from_residual-in_err-labels.ensures.1 c.in_err-labels.ensures
    (updating_is (λ (row : ContainerRow). row.labels) (λ row. row.extra) asked.update o
    (is_allowed_name asked.container) (is_allowed_if is_short_name asked.snapshotter
    ∷ is_allowed_if is_name asked.key
    ∷ are_together asked.snapshotter asked.key ∷ []) at found is
    c.in_ok-ns.ensures.0 c.in_ok-snapshot.ensures.0 refl refl refl refl)

-- what was made stands in the place of what was there
pub returns : goal.returns
unfolding AnswersExactly
returns g c =
    let asked = c.args.asked.now in
    let state = c.args.self.now.state in
    let o = sets_container state asked in
    let found = option_copied c.get_container-found.result in
    let at = row_at container_key (name_key asked.container) state.records.tables.containers in
    let is : found ≡ at = c.get_container-found.ensures
    ∙ λ i. row_at container_key ((c.in_ok-ns.ensures.1 i).0 ∷ (c.in_ok-ns.ensures.1 i).1 ∷ [])
    (c.self.view_is i).state.records.tables.containers in
    let free = updating_is (λ (row : ContainerRow). row.labels) (λ row. row.extra) asked.update o
    (is_allowed_name asked.container) (is_allowed_if is_short_name asked.snapshotter
    ∷ is_allowed_if is_name asked.key
    ∷ are_together asked.snapshotter asked.key ∷ []) at found is
    c.in_ok-ns.ensures.0 c.in_ok-snapshot.ensures.0 refl refl refl refl in
    let placed = container_is_set asked (c.in_ok-ns.ns ∷ c.in_ok-ns.name ∷ [])
    c.self.inside.records.tables.containers
    c.in_ok-snapshot.snapshot c.in_ok-snapshot-2.snapshot c.in_ok-labels.labels c.in_ok-labels.extra
    found
    c.in_ok-snapshot.ensures.1 (sym c.get_container-found.ensures) c.in_ok-labels.ensures.1
    c.in_ok-snapshot-2.ensures.ok in
    (free ∙ c.in_ok-labels.ensures.0, refl, search (rules, placed))
