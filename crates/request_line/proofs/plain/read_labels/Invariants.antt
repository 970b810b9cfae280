use Rattle.std.proofs.Common.{◌≡◌, ℕ, ◌≤◌, length}
use Rattle.json.specs.Json.{members, value}
use Rattle.serde_json.specs.Data.{no_members}
use Rattle.serde_json.specs.Read.{of_members, converted}
use Rattle.request_line.specs.LineMembers.{texts_object, IsRising}
use Rattle.request_line.proofs.plain.read_labels.Given as goal

abbrev pub invariant-members : goal.invariant-members
invariant-members l =
    (n : ℕ) × (length l.reader ≤ n)
    × (converted (λ ms. of_members ms no_members) (members (value 125) (length l.initial.reader) l.initial.reader) ≡ converted (λ ms. of_members ms (texts_object l.texts.items)) (members (value 125) n l.reader))
    × IsRising l.last l.texts.items

abbrev pub decreases-members : goal.decreases-members
decreases-members l = length l.reader
