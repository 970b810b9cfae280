use Rattle.std.proofs.Common.{◌≡◌, ◌∙◌, [], ◌∷◌, Some, ap, refl, rules, sym}
use Rattle.meta_types.specs.Keys.{row_at}
use Rattle.meta_types.specs.Labels.{put_label, takes_label}
use Rattle.meta_types.specs.Rows.{content_key}
use Rattle.meta_types.specs.Ops.{is_allowed_content}
use Rattle.meta_types.specs.Requests.{outcome}
use Rattle.meta_types.specs.Shown.{plain_row}
use Rattle.meta_types.specs.declared.rows.ContentRow.{ContentRow}
use Rattle.meta_types.specs.declared.reply.ReplyRow.TheVariants as W
use Rattle.meta_types.specs.declared.request.Request.TheVariants as R
use Rattle.request_core.specs.Foreseen.{ShowsRow}
use Rattle.request_core.proofs.ShownRows.{changed_shown, label_taken, unput}
use Rattle.request_core.proofs.state.State.show_content_label.Goals as goal

-- the row has the label
pub returns : goal.returns
unfolding ShowsRow
returns g c = λ none.
    let object = c.args.content.now in
    let label = c.args.label.now in
    let state = c.args.self.now.state in
    let found : Some c.in-Some.row.now ≡ row_at content_key (object.ns ∷ object.digest ∷ [])
    state.records.tables.content =
    c.in-Some.ensures
    ∙ λ i. row_at content_key ((c.in_ok-ns.ensures.1 i).0 ∷ (c.in_ok-ns.ensures.1 i).1 ∷ [])
    (c.self.view_is i).state.records.tables.content in
    changed_shown content_key (λ (r : ContentRow). plain_row (W.Content r))
    (object.ns ∷ object.digest ∷ [])
    (λ row. record row { labels = put_label label.key label.value row.labels }) (λ row. refl)
    state.records.tables.content c.in-Some.row.now
    (record c.in_ok-row.row { labels = c.put.new.self }) (sym found) (search rules)
    ∙ sym c.plain.ensures

-- where no fault applies, a label is refused with OutOfMemory only
pub returns-in_err-put : goal.returns-in_err-put
unfolding ShowsRow
returns-in_err-put g c = λ none.
    let object = c.args.content.now in
    let label = c.args.label.now in
    let state = c.args.self.now.state in
    let found : Some c.in-Some.row.now ≡ row_at content_key (object.ns ∷ object.digest ∷ [])
    state.records.tables.content =
    c.in-Some.ensures
    ∙ λ i. row_at content_key ((c.in_ok-ns.ensures.1 i).0 ∷ (c.in_ok-ns.ensures.1 i).1 ∷ [])
    (c.self.view_is i).state.records.tables.content in
    let taken = label_taken (λ (r : ContentRow). r.labels) label.key label.value
    (outcome state (R.ContentLabel object label)) (is_allowed_content object)
    (row_at content_key (object.ns ∷ object.digest ∷ []) state.records.tables.content)
    c.in-Some.row.now found refl none in
    unput _ c.from_residual-in_err-put.result c.in_err-put.field-0.0
    (takes_label c.text.result.now c.text-2.result.now c.in_ok-row.row.labels)
    c.from_residual-in_err-put.ensures.1 c.in_err-put.ensures.fault
    (rw (c.text.ensures, c.text-2.ensures, c.in_ok-row.ensures.ok) taken)
