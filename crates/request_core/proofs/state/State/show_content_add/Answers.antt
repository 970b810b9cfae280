use Rattle.std.proofs.Common.{◌≡◌, ◌∙◌, [], refl, sym, ap, rules}
use Rattle.meta_types.specs.Rows.{content_key}
use Rattle.meta_types.specs.Requests.{outcome}
use Rattle.meta_types.specs.Shown.{plain_row}
use Rattle.meta_types.specs.Labels.{labels_of}
use Rattle.meta_types.specs.Data.{data_of}
use Rattle.meta_types.specs.declared.rows.ContentRow.{ContentRow}
use Rattle.meta_types.specs.declared.reply.ReplyRow.TheVariants as W
use Rattle.meta_types.specs.declared.request.Request.TheVariants as R
use Rattle.request_core.specs.Foreseen.{ShowsRow}
use Rattle.request_core.proofs.ListsSound.{none_applies}
use Rattle.request_core.proofs.ShownRows.{added_shown}
use Rattle.request_core.proofs.state.State.show_content_add.Goals as goal

-- the row is the one that is added
pub returns : goal.returns
unfolding ShowsRow
returns g c = λ none.
    let asked = c.args.asked.now in
    let state = c.args.self.now.state in
    let free = none_applies (outcome state (R.ContentAdd asked)) none in
    let new : ContentRow = record {
      ns = asked.content.ns;
      digest = asked.content.digest;
      labels = labels_of asked.labels;
      extra = data_of asked.extra;
    } in
    let made : ContentRow = record {
      ns = c.in_ok-ns.ns;
      digest = c.in_ok-ns.digest;
      labels = c.in_ok-ns.parts.labels;
      extra = c.in_ok-ns.parts.extra;
    } in
    let same : made ≡ new = λ i. record {
      ns = (c.in_ok-ns.ensures.1 i).0;
      digest = (c.in_ok-ns.ensures.1 i).1;
      labels = (c.in_ok-ns.ensures.1 i).2.labels;
      extra = (c.in_ok-ns.ensures.1 i).2.extra;
    } in
    added_shown content_key (λ (r : ContentRow). plain_row (W.Content r)) new made
    state.records.tables.content free.2 same
    ∙ sym c.plain.ensures
