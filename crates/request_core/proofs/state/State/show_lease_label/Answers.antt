use Rattle.std.proofs.Common.{◌≡◌, ◌∙◌, [], ◌∷◌, Some, ap, refl, rules, sym}
use Rattle.meta_types.specs.Keys.{row_at}
use Rattle.meta_types.specs.Labels.{put_label, takes_label}
use Rattle.meta_types.specs.Rows.{LeaseRow, lease_key}
use Rattle.meta_types.specs.Ops.{is_allowed_name}
use Rattle.meta_types.specs.Requests.{outcome}
use Rattle.meta_types.specs.Shown.{plain_row}
use Rattle.meta_types.specs.declared.reply.ReplyRow.TheVariants as W
use Rattle.meta_types.specs.declared.request.Request.TheVariants as R
use Rattle.request_core.specs.Foreseen.{ShowsRow}
use Rattle.request_core.proofs.ShownRows.{changed_shown, label_taken, unput}
use Rattle.request_core.proofs.state.State.show_lease_label.Goals as goal

-- the row has the label
pub returns : goal.returns
unfolding ShowsRow
returns g c = λ none.
    let object = c.args.lease.now in
    let label = c.args.label.now in
    let state = c.args.self.now.state in
    let row : LeaseRow = c.in-Some.row.now in
    let labelled : LeaseRow = record row { labels = put_label label.key label.value row.labels } in
    let found : Some row ≡ row_at lease_key (object.ns ∷ object.name ∷ []) state.records.leases =
    c.in-Some.ensures
    ∙ λ i. row_at lease_key ((c.in_ok-ns.ensures.1 i).0 ∷ (c.in_ok-ns.ensures.1 i).1 ∷ [])
    (c.self.view_is i).state.records.leases in
    changed_shown lease_key (λ (r : LeaseRow). plain_row (W.Lease r.id r.labels r.extra))
    (object.ns ∷ object.name ∷ [])
    (λ r. record r { labels = put_label label.key label.value r.labels }) (λ r. refl)
    state.records.leases row labelled (sym found) refl
    ∙ search rules

-- where no fault applies, a label is refused with OutOfMemory only
pub returns-in_err-put : goal.returns-in_err-put
unfolding ShowsRow
returns-in_err-put g c = λ none.
    let object = c.args.lease.now in
    let label = c.args.label.now in
    let state = c.args.self.now.state in
    let found : Some c.in-Some.row.now ≡ row_at lease_key (object.ns ∷ object.name ∷ [])
    state.records.leases =
    c.in-Some.ensures
    ∙ λ i. row_at lease_key ((c.in_ok-ns.ensures.1 i).0 ∷ (c.in_ok-ns.ensures.1 i).1 ∷ [])
    (c.self.view_is i).state.records.leases in
    let taken = label_taken (λ (r : LeaseRow). r.labels) label.key label.value
    (outcome state (R.LeaseLabel object label)) (is_allowed_name object)
    (row_at lease_key (object.ns ∷ object.name ∷ []) state.records.leases) c.in-Some.row.now
    found refl none in
    unput _ c.from_residual-in_err-put.result c.in_err-put.field-0.0
    (takes_label c.text.result.now c.text-2.result.now c.in_ok-labels.labels)
    c.from_residual-in_err-put.ensures.1 c.in_err-put.ensures.fault
    (rw (c.text.ensures, c.text-2.ensures, c.in_ok-labels.ensures.ok, c.labels.ensures) taken)
