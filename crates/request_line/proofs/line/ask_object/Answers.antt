use Rattle.std.proofs.Common.{◌≡◌, ◌∙◌, sym, refl, inr}
use Rattle.serde_json.specs.View.{members_view}
use Rattle.request_line.specs.LineMembers.{command_by_all}
use Rattle.request_line.specs.Lines.{command_by}
use Rattle.request_line.proofs.LineMembers.{command_by_all-same}
use Rattle.request_line.proofs.line.ask_object.Goals as goal

-- the members ask for what the object does
pub returns-in-Some-clause-ok : goal.returns-in-Some-clause-ok
returns-in-Some-clause-ok c =
    let object = members_view c.args.members.now.entries in
    let same : command_by_all c.in_ok-listed.listed.items ≡ command_by object =
    command_by_all-same c.in_ok-listed.listed.items object c.in_ok-listed.ensures.object
    c.in_ok-listed.ensures.listed in
    sym same ∙ sym (rw c.deref.ensures.value at c.in_ok-found.ensures.ok) ∙ c.in-Some.is

-- the members ask for nothing
pub returns-clause-fault : goal.returns-clause-fault
returns-clause-fault c =
    let object = members_view c.args.members.now.entries in
    let same : command_by_all c.in_ok-listed.listed.items ≡ command_by object =
    command_by_all-same c.in_ok-listed.listed.items object c.in_ok-listed.ensures.object
    c.in_ok-listed.ensures.listed in
    inr (refl, sym same ∙ sym (rw c.deref.ensures.value at c.in_ok-found.ensures.ok) ∙ c.in-None.is)
