use Rattle.std.proofs.Common.{◌≡◌, ◌∙◌, [], ◌∷◌, Some, option_copied, ap, refl, rules, sym}
use Rattle.std.specs.Prelude.{option_map}
use Rattle.meta_types.specs.Ops.{is_allowed_content}
use Rattle.meta_types.specs.Ops.Content.{sets_content}
use Rattle.meta_types.specs.Keys.{row_at}
use Rattle.meta_types.specs.Rows.{content_key}
use Rattle.meta_types.specs.Shown.{plain_row}
use Rattle.meta_types.specs.declared.rows.ContentRow.{ContentRow}
use Rattle.meta_types.specs.declared.reply.ReplyRow.TheVariants as W
use Rattle.object_tables.specs.Edits.{content_with}
use Rattle.request_core.specs.Foreseen.{ShowsRow}
use Rattle.request_core.proofs.SetKinds.{content_is_set}
use Rattle.request_core.proofs.SetRows.{updating_is}
use Rattle.request_core.proofs.ShownRows.{changed_shown, parts_unmade}
use Rattle.request_core.proofs.state.State.show_content_set.Goals as goal

-- the parts weren't made
pub returns-in_err-labels : goal.returns-in_err-labels
unfolding ShowsRow
returns-in_err-labels g c = λ none.
    let content = c.args.content.now in
    let update = c.args.update.now in
    let state = c.args.self.now.state in
    let o = sets_content state content update in
    let found = option_copied c.get_content-found.result in
    let at = row_at content_key (content.ns ∷ content.digest ∷ []) state.records.tables.content in
    let is : found ≡ at = c.get_content-found.ensures
    ∙ λ i. row_at content_key ((c.in_ok-ns.ensures.1 i).0 ∷ (c.in_ok-ns.ensures.1 i).1 ∷ [])
    (c.self.view_is i).state.records.tables.content in
    parts_unmade (λ (row : ContentRow). row.labels) (λ row. row.extra) update found _
    c.from_residual-in_err-labels.result c.in_err-labels.field-0.0
    c.from_residual-in_err-labels.ensures.1 c.in_err-labels.ensures
    (sym (updating_is (λ (row : ContentRow). row.labels) (λ row. row.extra) update o
    (is_allowed_content content) ([]) at found is
    c.in_ok-ns.ensures.0 refl refl refl refl refl) ∙ none)

-- the row is the one that is put in its place
pub returns : goal.returns
unfolding ShowsRow
returns g c = λ none.
    let content = c.args.content.now in
    let update = c.args.update.now in
    let state = c.args.self.now.state in
    let key = content.ns ∷ content.digest ∷ [] in
    let rows = state.records.tables.content in
    let found = option_copied c.get_content-found.result in
    let is : found ≡ row_at content_key key rows = c.get_content-found.ensures
    ∙ λ i. row_at content_key ((c.in_ok-ns.ensures.1 i).0 ∷ (c.in_ok-ns.ensures.1 i).1 ∷ [])
    (c.self.view_is i).state.records.tables.content in
    let there : found ≡ Some c.in-Some.row.now = search rules in
    let placed = content_is_set update key rows c.in_ok-labels.labels c.in_ok-labels.extra found
    (sym is) c.in_ok-labels.ensures.1 in
    ap (λ all. option_map (λ (r : ContentRow). plain_row (W.Content r))
    (row_at content_key key all)) (sym placed)
    ∙ changed_shown content_key (λ (r : ContentRow). plain_row (W.Content r)) key
    (content_with c.in_ok-labels.labels c.in_ok-labels.extra) (λ r. refl) rows
    c.in-Some.row.now c.in_ok-row.row (sym is ∙ there) c.in_ok-row.ensures.ok
    ∙ sym c.plain.ensures
