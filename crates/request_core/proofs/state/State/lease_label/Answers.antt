use Rattle.std.proofs.Common.{rules, ◌≡◌, [], ◌∷◌, ap}
use Rattle.meta_types.specs.Text.{is_short_name, is_name}
use Rattle.meta_types.specs.Keys.{row_at, change_row}
use Rattle.meta_types.specs.Labels.{put_label}
use Rattle.meta_types.specs.Rows.{LeaseRow, lease_key}
use Rattle.meta_types.specs.Changes.{with_leases}
use Rattle.request_core.specs.Follows.{Store, AnswersExactly}
use Rattle.request_core.proofs.Refusals.{label_refused}
use Rattle.request_core.proofs.state.State.lease_label.Goals as goal

-- the label isn't allowed, or what it is put on isn't there
pub returns-in_err-relabel : goal.returns-in_err-relabel
unfolding AnswersExactly
returns-in_err-relabel g c =
    let ns_is : c.in_ok-ns.ns ≡ c.args.lease.now.ns = search rules in
    let id_is : c.in_ok-ns.id ≡ c.args.lease.now.name = search rules in
    let rows = c.args.self.now.state.records.leases in
    let rows_are = ap (λ (store : Store). store.state.records.leases) c.self.view_is in
    label_refused (λ (row : LeaseRow). row.labels) c.args.self.now (is_short_name c.args.lease.now.ns ∷ is_name c.args.lease.now.name ∷ []) c.args.label.now.key c.args.label.now.value (row_at lease_key (c.args.lease.now.ns ∷ c.args.lease.now.name ∷ []) rows)
    (with_leases c.args.self.now.state (change_row lease_key (c.args.lease.now.ns ∷ c.args.lease.now.name ∷ []) (λ row. record row { labels = put_label c.args.label.now.key c.args.label.now.value row.labels }) rows)) _ _ c.in_err-relabel.field-0.0 (search rules) c.in_ok-ns.ensures.0
    (rw (← c.text.ensures, ← c.text-2.ensures, ← ns_is, ← id_is, ← rows_are) c.in_err-relabel.ensures.fault) (search rules)
