use Rattle.std.proofs.Common.{◌≡◌, None}
use Rattle.meta_types.specs.Ops.{least_fault}
use Rattle.meta_types.specs.Requests.{outcome}
use Rattle.meta_types.specs.Shown.{row_shown}
use Rattle.request_core.specs.Foreseen.{ShowsRow}
use Rattle.request_core.proofs.ShownRows.{told_fault, told_shows}
use Rattle.request_core.proofs.state.State.show.Goals as goal

-- memory alone refuses
pub returns-clause-fault : goal.returns-clause-fault
returns-clause-fault g c = rw c.told.ensures (told_fault c.show_row.result)

-- where no fault applies, the answer is the row
pub returns-clause-ok : goal.returns-clause-ok
unfolding ShowsRow
returns-clause-ok g c =
    let o = outcome c.args.self.now.state c.args.request.now in
    rw c.told.ensures (told_shows (least_fault o ≡ None) (row_shown o.after c.args.request.now)
    c.show_row.result c.show_row.ensures)
