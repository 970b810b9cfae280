use Rattle.std.proofs.Common.{◌≡◌, ◌∙◌, ap, sym, refl, inr, Some, None, option_map}
use Rattle.serde_json.specs.Find.{as_object}
use Rattle.serde_json.specs.View.{view, members_view}
use Rattle.request_line.proofs.Asking.{command_from-object, command_from-other}
use Rattle.request_line.proofs.line.ask_by.Goals as goal

-- the value is this object
pub returns-in-Some-clause-fault : goal.returns-in-Some-clause-fault
returns-in-Some-clause-fault c =
    let object : as_object (view c.args.value.now)
    ≡ Some (members_view c.in-Some.members.now.entries) =
    sym c.as_object.ensures ∙ ap (option_map (λ m. members_view m.now.entries)) c.in-Some.is in
    rw (command_from-object _ _ object) c.ask_object.ensures.fault

-- the value is this object
pub returns-in-Some-clause-ok : goal.returns-in-Some-clause-ok
returns-in-Some-clause-ok c =
    let object : as_object (view c.args.value.now)
    ≡ Some (members_view c.in-Some.members.now.entries) =
    sym c.as_object.ensures ∙ ap (option_map (λ m. members_view m.now.entries)) c.in-Some.is in
    rw (command_from-object _ _ object) c.ask_object.ensures.ok

-- the value is no object
pub returns-in-None-clause-fault : goal.returns-in-None-clause-fault
returns-in-None-clause-fault c =
    let other : as_object (view c.args.value.now) ≡ None =
    sym c.as_object.ensures ∙ ap (option_map (λ m. members_view m.now.entries)) c.in-None.is in
    inr (refl, command_from-other (view c.args.value.now) other)
