use Rattle.std.proofs.Common.{◌≡◌, ◌∙◌, [], ◌∷◌, Some, ap, refl, rules, sym}
use Rattle.meta_types.specs.Keys.{row_at}
use Rattle.meta_types.specs.Rows.{image_key}
use Rattle.meta_types.specs.Shown.{plain_row}
use Rattle.meta_types.specs.declared.rows.ImageRow.{ImageRow}
use Rattle.meta_types.specs.declared.reply.ReplyRow.TheVariants as W
use Rattle.request_core.specs.Foreseen.{ShowsRow}
use Rattle.request_core.proofs.ShownRows.{changed_shown}
use Rattle.request_core.proofs.state.State.show_image_target.Goals as goal

-- the row has the target
pub returns : goal.returns
unfolding ShowsRow
returns g c = λ none.
    let asked = c.args.asked.now in
    let found : Some c.in-Some.row.now ≡ row_at image_key (asked.image.ns ∷ asked.image.name ∷ [])
    c.args.self.now.state.records.tables.images = c.in-Some.ensures
    ∙ λ i. row_at image_key ((c.in_ok-ns.ensures.1 i).0 ∷ (c.in_ok-ns.ensures.1 i).1 ∷ [])
    (c.self.view_is i).state.records.tables.images in
    changed_shown image_key (λ (r : ImageRow). plain_row (W.Image r))
    (asked.image.ns ∷ asked.image.name ∷ [])
    (λ row. record row { target = asked.target }) (λ row. refl)
    c.args.self.now.state.records.tables.images c.in-Some.row.now
    (record c.in_ok-row.row { target = c.in_ok-ns.target }) (sym found) (search rules)
    ∙ sym c.plain.ensures
