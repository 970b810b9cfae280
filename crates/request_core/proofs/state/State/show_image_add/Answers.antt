use Rattle.std.proofs.Common.{◌≡◌, ◌∙◌, [], refl, sym, ap, rules}
use Rattle.meta_types.specs.Rows.{image_key}
use Rattle.meta_types.specs.Requests.{outcome}
use Rattle.meta_types.specs.Shown.{plain_row}
use Rattle.meta_types.specs.declared.rows.ImageRow.{ImageRow}
use Rattle.meta_types.specs.declared.reply.ReplyRow.TheVariants as W
use Rattle.meta_types.specs.declared.request.Request.TheVariants as R
use Rattle.request_core.specs.Foreseen.{ShowsRow}
use Rattle.request_core.proofs.ListsSound.{none_applies}
use Rattle.request_core.proofs.ShownRows.{added_shown}
use Rattle.request_core.proofs.state.State.show_image_add.Goals as goal

-- the row is the one that is added
pub returns : goal.returns
unfolding ShowsRow
returns g c = λ none.
    let asked = c.args.asked.now in
    let state = c.args.self.now.state in
    let free = none_applies (outcome state (R.ImageAdd asked)) none in
    added_shown image_key (λ (r : ImageRow). plain_row (W.Image r)) _ c.in_ok-row.row
    state.records.tables.images free.2 c.in_ok-row.ensures.1
    ∙ sym c.plain.ensures
