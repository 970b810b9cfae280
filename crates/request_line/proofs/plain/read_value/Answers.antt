use Rattle.std.proofs.Common.{rules, ◌≡◌, ◌∷◌, length, Some, arith}
use Rattle.json.specs.Token.{Token}
use Rattle.json.specs.Json.{members, value}
use Rattle.serde_json.specs.Data.{no_members}
use Rattle.serde_json.specs.Read.{of_members, converted}
use Rattle.request_line.specs.LineMembers.{texts_object}
use Rattle.request_line.proofs.LineMembers.{text_read, object_read}
use Rattle.request_line.proofs.plain.read_value.Goals as goal

-- a text
pub returns-in-Some-String-clause-ok : goal.returns-in-Some-String-clause-ok
returns-in-Some-String-clause-ok c =
    text_read 126 c.in-Some-String.text.now c.args.reader.now c.next.new.self (grind arith)

-- an object of texts
pub returns-in-Some-clause-ok : goal.returns-in-Some-clause-ok
returns-in-Some-clause-ok c =
    let old = c.args.reader.now in
    let rest = c.next.new.self in
    let last = c.read_labels.new.reader in
    let ms = texts_object c.in-Some.texts.items in
    let opened : old ≡ Token.begin_object ∷ rest = grind arith in
    let read : converted (λ ms. of_members ms no_members) (members (value 125) (length rest) rest)
    ≡ Some (ms, last) =
    search rules in
    object_read 126 ms old rest last (omega arith) opened read
