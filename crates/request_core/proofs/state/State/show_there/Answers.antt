use Rattle.std.proofs.Common.{◌≡◌, false}
use Rattle.meta_types.specs.Requests.{outcome}
use Rattle.meta_types.specs.Shown.{object_to_hold}
use Rattle.request_core.specs.Foreseen.{there_of}
use Rattle.request_core.proofs.ShownRows.{told_fault, told_shows}
use Rattle.request_core.proofs.state.State.show_there.Goals as goal

-- memory alone refuses
pub returns-clause-fault : goal.returns-clause-fault
returns-clause-fault g c = rw c.told.ensures (told_fault c.look_there.result)

-- where the texts are allowed, the answer is the row that exists
pub returns-clause-ok : goal.returns-clause-ok
returns-clause-ok g c =
    let state = c.args.self.now.state in
    let request = c.args.request.now in
    rw c.told.ensures (told_shows ((outcome state request).invalid ≡ false)
    (there_of state (object_to_hold request)) c.look_there.result c.look_there.ensures)
