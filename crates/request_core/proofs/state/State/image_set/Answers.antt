use Rattle.std.proofs.Common.{◌≡◌, ◌∙◌, [], ◌∷◌, true, ap, option_copied, refl, rules, sym}
use Rattle.std.specs.Prelude.{◌&&◌}
use Rattle.meta_types.specs.Text.{is_digest}
use Rattle.meta_types.specs.Keys.{row_at}
use Rattle.meta_types.specs.Rows.{image_key}
use Rattle.meta_types.specs.Changes.{is_allowed_if}
use Rattle.meta_types.specs.Ops.{name_key, is_allowed_name}
use Rattle.meta_types.specs.Ops.Images.{sets_image}
use Rattle.meta_types.specs.declared.rows.ImageRow.{ImageRow}
use Rattle.request_core.specs.Follows.{AnswersExactly}
use Rattle.request_core.proofs.SetRows.{updating_is, parts_refused}
use Rattle.request_core.proofs.SetKinds.{image_is_set}
use Rattle.request_core.proofs.state.State.image_set.Goals as goal

-- the parts weren't made
pub returns-in_err-labels : goal.returns-in_err-labels
unfolding AnswersExactly
returns-in_err-labels g c =
    let asked = c.args.asked.now in
    let state = c.args.self.now.state in
    let found = option_copied c.get_image-found.result in
    let at = row_at image_key (name_key asked.image) state.records.tables.images in
    let is : found ≡ at = c.get_image-found.ensures
    ∙ λ i. row_at image_key ((c.in_ok-ns.ensures.1 i).0 ∷ (c.in_ok-ns.ensures.1 i).1 ∷ [])
    (c.self.view_is i).state.records.tables.images in
    parts_refused (λ (row : ImageRow). row.labels) (λ row. row.extra) asked.update found
    c.args.self.now
    (sets_image state asked) c.from_residual-in_err-labels.result c.in_err-labels.field-0.0
    c.from_residual-in_err-labels.ensures.1 c.in_err-labels.ensures
    (updating_is (λ (row : ImageRow). row.labels) (λ row. row.extra) asked.update
    (sets_image state asked)
    (is_allowed_name asked.image) (is_allowed_if is_digest asked.target ∷ []) at found is
    c.in_ok-ns.ensures.0 (ap (λ b. b && true) c.in_ok-target.ensures.0) refl refl refl refl)

-- what was made stands in the place of what was there
pub returns : goal.returns
unfolding AnswersExactly
returns g c =
    let asked = c.args.asked.now in
    let state = c.args.self.now.state in
    let found = option_copied c.get_image-found.result in
    let at = row_at image_key (name_key asked.image) state.records.tables.images in
    let is : found ≡ at = c.get_image-found.ensures
    ∙ λ i. row_at image_key ((c.in_ok-ns.ensures.1 i).0 ∷ (c.in_ok-ns.ensures.1 i).1 ∷ [])
    (c.self.view_is i).state.records.tables.images in
    let free = updating_is (λ (row : ImageRow). row.labels) (λ row. row.extra) asked.update
    (sets_image state asked)
    (is_allowed_name asked.image) (is_allowed_if is_digest asked.target ∷ []) at found is
    c.in_ok-ns.ensures.0 (ap (λ b. b && true) c.in_ok-target.ensures.0) refl refl refl refl in
    let placed = image_is_set asked (c.in_ok-ns.ns ∷ c.in_ok-ns.name ∷ [])
    c.self.inside.records.tables.images
    c.in_ok-target.target c.in_ok-target-2.target c.in_ok-labels.labels c.in_ok-labels.extra found
    c.in_ok-target.ensures.1 (sym c.get_image-found.ensures) c.in_ok-labels.ensures.1
    c.in_ok-target-2.ensures.ok in
    (free ∙ c.in_ok-labels.ensures.0, refl, search (rules, placed))
