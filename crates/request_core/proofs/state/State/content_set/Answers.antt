use Rattle.std.proofs.Common.{◌≡◌, ◌∙◌, [], ◌∷◌, option_copied, refl, rules, sym}
use Rattle.meta_types.specs.Keys.{row_at}
use Rattle.meta_types.specs.Rows.{content_key}
use Rattle.meta_types.specs.Ops.{digest_key, is_allowed_content}
use Rattle.meta_types.specs.Ops.Content.{sets_content}
use Rattle.meta_types.specs.declared.rows.ContentRow.{ContentRow}
use Rattle.request_core.specs.Follows.{AnswersExactly}
use Rattle.request_core.proofs.SetRows.{updating_is, parts_refused}
use Rattle.request_core.proofs.SetKinds.{content_is_set}
use Rattle.request_core.proofs.state.State.content_set.Goals as goal

-- the parts weren't made
pub returns-in_err-labels : goal.returns-in_err-labels
unfolding AnswersExactly
returns-in_err-labels g c =
    let content = c.args.content.now in
    let update = c.args.update.now in
    let state = c.args.self.now.state in
    let o = sets_content state content update in
    let found = option_copied c.get_content-found.result in
    let at = row_at content_key (digest_key content) state.records.tables.content in
    let is : found ≡ at = c.get_content-found.ensures
    ∙ λ i. row_at content_key ((c.in_ok-ns.ensures.1 i).0 ∷ (c.in_ok-ns.ensures.1 i).1 ∷ [])
    (c.self.view_is i).state.records.tables.content in
    parts_refused (λ (row : ContentRow). row.labels) (λ row. row.extra) update found c.args.self.now
    o c.from_residual-in_err-labels.result c.in_err-labels.field-0.0
    c.from_residual-in_err-labels.ensures.1 c.in_err-labels.ensures
    (updating_is (λ (row : ContentRow). row.labels) (λ row. row.extra) update o
    (is_allowed_content content) ([]) at found is
    c.in_ok-ns.ensures.0 refl refl refl refl refl)

-- what was made stands in the place of what was there
pub returns : goal.returns
unfolding AnswersExactly
returns g c =
    let content = c.args.content.now in
    let update = c.args.update.now in
    let state = c.args.self.now.state in
    let o = sets_content state content update in
    let found = option_copied c.get_content-found.result in
    let at = row_at content_key (digest_key content) state.records.tables.content in
    let is : found ≡ at = c.get_content-found.ensures
    ∙ λ i. row_at content_key ((c.in_ok-ns.ensures.1 i).0 ∷ (c.in_ok-ns.ensures.1 i).1 ∷ [])
    (c.self.view_is i).state.records.tables.content in
    let free = updating_is (λ (row : ContentRow). row.labels) (λ row. row.extra) update o
    (is_allowed_content content) ([]) at found is
    c.in_ok-ns.ensures.0 refl refl refl refl refl in
    let placed = content_is_set update (c.in_ok-ns.ns ∷ c.in_ok-ns.digest ∷ [])
    c.self.inside.records.tables.content
    c.in_ok-labels.labels c.in_ok-labels.extra found (sym c.get_content-found.ensures)
    c.in_ok-labels.ensures.1 in
    (free ∙ c.in_ok-labels.ensures.0, refl, search (rules, placed))
