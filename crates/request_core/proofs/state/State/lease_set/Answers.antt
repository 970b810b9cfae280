use Rattle.std.proofs.Common.{◌≡◌, ◌∙◌, [], ◌∷◌, option_copied, refl, rules, sym}
use Rattle.meta_types.specs.Keys.{row_at}
use Rattle.meta_types.specs.Rows.{LeaseRow, lease_key}
use Rattle.meta_types.specs.Ops.{name_key, is_allowed_name}
use Rattle.meta_types.specs.Ops.Leases.{sets_lease}
use Rattle.request_core.specs.Follows.{AnswersExactly}
use Rattle.request_core.proofs.SetRows.{updating_is, parts_refused}
use Rattle.request_core.proofs.SetKinds.{lease_is_set}
use Rattle.request_core.proofs.state.State.lease_set.Goals as goal

-- the parts weren't made
pub returns-in_err-labels : goal.returns-in_err-labels
unfolding AnswersExactly
returns-in_err-labels g c =
    let lease = c.args.lease.now in
    let update = c.args.update.now in
    let state = c.args.self.now.state in
    let o = sets_lease state lease update in
    let found = option_copied c.get-found.result in
    let at = row_at lease_key (name_key lease) state.records.leases in
    let is : found ≡ at = c.get-found.ensures
    ∙ λ i. row_at lease_key ((c.in_ok-ns.ensures.1 i).0 ∷ (c.in_ok-ns.ensures.1 i).1 ∷ [])
    (c.self.view_is i).state.records.leases in
    parts_refused (λ (row : LeaseRow). row.labels) (λ row. row.extra) update found c.args.self.now
    o c.from_residual-in_err-labels.result c.in_err-labels.field-0.0
    c.from_residual-in_err-labels.ensures.1 c.in_err-labels.ensures
    (updating_is (λ (row : LeaseRow). row.labels) (λ row. row.extra) update o
    (is_allowed_name lease) ([]) at found is
    c.in_ok-ns.ensures.0 refl refl refl refl refl)

-- what was made stands in the place of what was there
pub returns : goal.returns
unfolding AnswersExactly
returns g c =
    let lease = c.args.lease.now in
    let update = c.args.update.now in
    let state = c.args.self.now.state in
    let o = sets_lease state lease update in
    let found = option_copied c.get-found.result in
    let at = row_at lease_key (name_key lease) state.records.leases in
    let is : found ≡ at = c.get-found.ensures
    ∙ λ i. row_at lease_key ((c.in_ok-ns.ensures.1 i).0 ∷ (c.in_ok-ns.ensures.1 i).1 ∷ [])
    (c.self.view_is i).state.records.leases in
    let free = updating_is (λ (row : LeaseRow). row.labels) (λ row. row.extra) update o
    (is_allowed_name lease) ([]) at found is
    c.in_ok-ns.ensures.0 refl refl refl refl refl in
    let placed = lease_is_set update (c.in_ok-ns.ns ∷ c.in_ok-ns.id ∷ [])
    c.self.inside.records.leases
    c.in_ok-labels.labels c.in_ok-labels.extra found (sym c.get-found.ensures)
    c.in_ok-labels.ensures.1 in
    (free ∙ c.in_ok-labels.ensures.0, refl, search (rules, placed))
