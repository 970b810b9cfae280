use Rattle.std.proofs.Common.{◌≡◌, ◌∙◌, refl, Some, rules}
use Rattle.std.proofs.lemmas.Str.{is_utf8-from_IsUtf8}
use Rattle.serde_json.specs.Data.{object}
use Rattle.serde_json.specs.Read.{read}
use Rattle.request_line.specs.LineMembers.{object_of}
use Rattle.request_line.proofs.Asking.{command_in-value, command_from-object}
use Rattle.request_line.proofs.LineMembers.{plain_asks}
use Rattle.request_line.proofs.line.ask_plain.Goals as goal

-- the line is the object of these members
pub returns-clause-ok : goal.returns-clause-ok
returns-clause-ok c =
    let line = c.args.line.now in
    let items = c.in-Some.members.items in
    let ms = object_of items in
    let text = c.in-Ok.ensures.cases in
    let in_text : read c.in-Ok.text.now ≡ Some (object ms) = search rules in
    let in_line : read line ≡ Some (object ms) = rw text.0 at in_text in
    let asks =
    command_in-value line (object ms) (is_utf8-from_IsUtf8 line text.1) in_line
    ∙ command_from-object (object ms) ms refl in
    plain_asks c.ask.result line items asks (rw c.deref.ensures.value at c.ask.ensures.ok)
