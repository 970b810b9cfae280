use Rattle.std.proofs.Common.{◌≡◌, ◌∙◌, [], ◌∷◌, Some, option_copied, ap, refl, rules, sym}
use Rattle.std.specs.Prelude.{option_map}
use Rattle.meta_types.specs.Ops.{is_allowed_name}
use Rattle.meta_types.specs.Ops.Leases.{sets_lease}
use Rattle.meta_types.specs.Keys.{row_at}
use Rattle.meta_types.specs.Rows.{LeaseRow, lease_key}
use Rattle.meta_types.specs.Shown.{plain_row}
use Rattle.meta_types.specs.declared.reply.ReplyRow.TheVariants as W
use Rattle.lease_book.specs.Edits.{lease_with}
use Rattle.request_core.specs.Foreseen.{ShowsRow}
use Rattle.request_core.proofs.SetKinds.{lease_is_set}
use Rattle.request_core.proofs.SetRows.{updating_is}
use Rattle.request_core.proofs.ShownRows.{changed_shown, parts_unmade}
use Rattle.request_core.proofs.state.State.show_lease_set.Goals as goal

-- the parts weren't made
pub returns-in_err-labels : goal.returns-in_err-labels
unfolding ShowsRow
returns-in_err-labels g c = λ none.
    let lease = c.args.lease.now in
    let update = c.args.update.now in
    let state = c.args.self.now.state in
    let o = sets_lease state lease update in
    let found = option_copied c.get-found.result in
    let at = row_at lease_key (lease.ns ∷ lease.name ∷ []) state.records.leases in
    let is : found ≡ at = c.get-found.ensures
    ∙ λ i. row_at lease_key ((c.in_ok-ns.ensures.1 i).0 ∷ (c.in_ok-ns.ensures.1 i).1 ∷ [])
    (c.self.view_is i).state.records.leases in
    parts_unmade (λ (row : LeaseRow). row.labels) (λ row. row.extra) update found _
    c.from_residual-in_err-labels.result c.in_err-labels.field-0.0
    c.from_residual-in_err-labels.ensures.1 c.in_err-labels.ensures
    (sym (updating_is (λ (row : LeaseRow). row.labels) (λ row. row.extra) update o
    (is_allowed_name lease) ([]) at found is
    c.in_ok-ns.ensures.0 refl refl refl refl refl) ∙ none)

-- the row is the one that is put in its place
pub returns : goal.returns
unfolding ShowsRow
returns g c = λ none.
    let lease = c.args.lease.now in
    let update = c.args.update.now in
    let state = c.args.self.now.state in
    let key = lease.ns ∷ lease.name ∷ [] in
    let rows = state.records.leases in
    let found = option_copied c.get-found.result in
    let is : found ≡ row_at lease_key key rows = c.get-found.ensures
    ∙ λ i. row_at lease_key ((c.in_ok-ns.ensures.1 i).0 ∷ (c.in_ok-ns.ensures.1 i).1 ∷ [])
    (c.self.view_is i).state.records.leases in
    let there : found ≡ Some c.in-Some.row.now = search rules in
    let placed = lease_is_set update key rows c.in_ok-labels.labels c.in_ok-labels.extra found
    (sym is) c.in_ok-labels.ensures.1 in
    let row : LeaseRow = c.in-Some.row.now in
    let put = lease_with c.in_ok-labels.labels c.in_ok-labels.extra in
    ap (λ all. option_map (λ (r : LeaseRow). plain_row (W.Lease r.id r.labels r.extra))
    (row_at lease_key key all)) (sym placed)
    ∙ changed_shown lease_key (λ (r : LeaseRow). plain_row (W.Lease r.id r.labels r.extra)) key put
    (λ r. refl) rows
    row (put row) (sym is ∙ there) refl
    ∙ search rules
