use Rattle.std.proofs.Common.{◌≡◌, [], ◌∷◌, length, Some, arith, rules}
use Rattle.json.specs.Token.{Token}
use Rattle.json.specs.Lex.{tokens}
use Rattle.json.specs.Json.{members, value}
use Rattle.serde_json.specs.Data.{no_members, object}
use Rattle.serde_json.specs.Read.{of_json, of_members, converted}
use Rattle.request_line.specs.LineMembers.{object_of}
use Rattle.request_line.proofs.LineMembers.{object_read, whole_read}
use Rattle.request_line.proofs.plain.read_plain.Goals as goal

pub returns-clause-ok : goal.returns-clause-ok
returns-clause-ok c =
    let line = c.args.text.now in
    let rest = c.next.new.self in
    let last = c.read_members.new.reader in
    let ms = object_of c.in-Some.members.items in
    let opened : tokens line ≡ Token.begin_object ∷ rest = grind arith in
    let done : last ≡ [] = search rules in
    let read : converted (λ ms. of_members ms no_members) (members (value 126) (length rest) rest)
    ≡ Some (ms, last) =
    search rules in
    let value_of : converted of_json (value 127 (tokens line)) ≡ Some (object ms, last) =
    object_read 127 ms (tokens line) rest last (omega arith) opened read in
    whole_read (value 127 (tokens line)) _ (rw done at value_of)
