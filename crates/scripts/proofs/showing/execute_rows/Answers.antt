use Rattle.std.proofs.Common.{◌≡◌, ◌∙◌, ap, sym, refl, subst, List, Option, Some}
use Rattle.meta_types.specs.Questions.{LineAnswer, of_shown}
use Rattle.meta_types.specs.Rows.{State}
use Rattle.meta_types.specs.Shown.{shows_rows}
use Rattle.meta_types.specs.declared.fault.Fault.{Fault}
use Rattle.meta_types.specs.declared.shown_row.ShownRow.{ShownRow}
use Rattle.request_core.specs.Follows.{Store}
use Rattle.request_core.specs.Listed.{Lists}
use Rattle.request_core.specs.declared.listing.ListedRows.{ListedRows}
use Rattle.request_line.specs.declared.command.Command.TheVariants as A
use Rattle.scripts.specs.Served.{IsServed, IsRefused}
use Rattle.scripts.proofs.LineAnswers.{passed_on}
use Rattle.scripts.proofs.Served.{no_memory}
use Rattle.scripts.proofs.WithWords.{listing_refused, listing_found, rows_served}
use Rattle.scripts.proofs.showing.execute_rows.Goals as goal

-- the listing is refused
pub returns-in_err-found-clause-err : goal.returns-in_err-found-clause-err
returns-in_err-found-clause-err g c = λ answer there takes asks.
    let old = c.args.locked.now.store.state in
    passed_on c.from_residual.result _
    (λ (fault : Fault). IsRefused old (A.Show c.args.request.now answer there) fault old)
    c.from_residual.ensures.1
    (listing_refused old c.args.request.now answer there takes asks _
    (rw c.state.ensures at c.in_err-found.ensures.fault))

-- it is one
pub returns-in_default-clause-err : goal.returns-in_default-clause-err
returns-in_default-clause-err g c = λ answer there takes asks.
    absurd (listing_found c.args.locked.now.store.state c.args.request.now answer there takes asks
    c.in_ok-found.found (rw c.state.ensures at c.in_ok-found.ensures.ok) c.in_default.is)

-- there is no memory for copies of its rows
pub returns-in_err-rows-clause-err : goal.returns-in_err-rows-clause-err
returns-in_err-rows-clause-err g c = λ answer there takes asks.
    let old = c.args.locked.now.store.state in
    passed_on c.from_residual-in_err-rows.result _
    (λ (fault : Fault). IsRefused old (A.Show c.args.request.now answer there) fault old)
    c.from_residual-in_err-rows.ensures.1
    (no_memory old (A.Show c.args.request.now answer there) _ c.in_err-rows.ensures.fault)

-- they are shown
pub returns-clause-ok : goal.returns-clause-ok
returns-clause-ok g c = λ answer there takes asks.
    let old = c.args.locked.now.store.state in
    let found = rw c.state.ensures at c.in_ok-found.ensures.ok in
    let lists = subst (λ (f : Option ListedRows). Lists old c.args.request.now f) c.in-Some.is
    found in
    let rows = c.in_ok-rows.ensures.ok in
    rows_served old c.args.request.now answer there takes asks c.in_ok-rows.rows.items lists.0
    (lists.1 ∙ ap (λ (r : List ShownRow). Some r) (sym (rw c.state-2.ensures at rows)))
