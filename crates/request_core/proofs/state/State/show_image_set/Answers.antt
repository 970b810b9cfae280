use Rattle.std.proofs.Common.{◌≡◌, ◌∙◌, [], ◌∷◌, true, Some, option_copied, ap, refl, rules, sym}
use Rattle.std.specs.Prelude.{◌&&◌, option_map}
use Rattle.meta_types.specs.Text.{is_digest}
use Rattle.meta_types.specs.Keys.{row_at}
use Rattle.meta_types.specs.Rows.{image_key}
use Rattle.meta_types.specs.Changes.{is_allowed_if}
use Rattle.meta_types.specs.Ops.{name_key, is_allowed_name}
use Rattle.meta_types.specs.Ops.Images.{sets_image}
use Rattle.meta_types.specs.Shown.{plain_row}
use Rattle.meta_types.specs.declared.rows.ImageRow.{ImageRow}
use Rattle.meta_types.specs.declared.reply.ReplyRow.TheVariants as W
use Rattle.object_tables.specs.Edits.{image_with}
use Rattle.request_core.specs.Foreseen.{ShowsRow}
use Rattle.request_core.proofs.SetKinds.{image_is_set}
use Rattle.request_core.proofs.SetRows.{updating_is}
use Rattle.request_core.proofs.ShownRows.{changed_shown, parts_unmade}
use Rattle.request_core.proofs.state.State.show_image_set.Goals as goal

-- the parts weren't made
pub returns-in_err-labels : goal.returns-in_err-labels
unfolding ShowsRow
returns-in_err-labels g c = λ none.
    let asked = c.args.asked.now in
    let state = c.args.self.now.state in
    let found = option_copied c.get_image-found.result in
    let at = row_at image_key (name_key asked.image) state.records.tables.images in
    let is : found ≡ at = c.get_image-found.ensures
    ∙ λ i. row_at image_key ((c.in_ok-ns.ensures.1 i).0 ∷ (c.in_ok-ns.ensures.1 i).1 ∷ [])
    (c.self.view_is i).state.records.tables.images in
    parts_unmade (λ (row : ImageRow). row.labels) (λ row. row.extra) asked.update found _
    c.from_residual-in_err-labels.result c.in_err-labels.field-0.0
    c.from_residual-in_err-labels.ensures.1 c.in_err-labels.ensures
    (sym (updating_is (λ (row : ImageRow). row.labels) (λ row. row.extra) asked.update
    (sets_image state asked)
    (is_allowed_name asked.image) (is_allowed_if is_digest asked.target ∷ []) at found is
    c.in_ok-ns.ensures.0 (ap (λ b. b && true) c.in_ok-target.ensures.0) refl refl refl refl) ∙ none)

-- the row is the one that is put in its place
pub returns : goal.returns
unfolding ShowsRow
returns g c = λ none.
    let asked = c.args.asked.now in
    let state = c.args.self.now.state in
    let key = asked.image.ns ∷ asked.image.name ∷ [] in
    let rows = state.records.tables.images in
    let found = option_copied c.get_image-found.result in
    let is : found ≡ row_at image_key key rows = c.get_image-found.ensures
    ∙ λ i. row_at image_key ((c.in_ok-ns.ensures.1 i).0 ∷ (c.in_ok-ns.ensures.1 i).1 ∷ [])
    (c.self.view_is i).state.records.tables.images in
    let there : found ≡ Some c.in-Some.row.now = search rules in
    let placed = image_is_set asked key rows c.in_ok-target.target c.in_ok-target-2.target
    c.in_ok-labels.labels c.in_ok-labels.extra found
    c.in_ok-target.ensures.1 (sym is) c.in_ok-labels.ensures.1 c.in_ok-target-2.ensures.ok in
    ap (λ all. option_map (λ (r : ImageRow). plain_row (W.Image r)) (row_at image_key key all))
    (sym placed)
    ∙ changed_shown image_key (λ (r : ImageRow). plain_row (W.Image r)) key
    (image_with c.in_ok-target-2.target c.in_ok-labels.labels c.in_ok-labels.extra) (λ row. refl)
    rows
    c.in-Some.row.now c.in_ok-row.row (sym is ∙ there) c.in_ok-row.ensures.ok
    ∙ sym c.plain.ensures
