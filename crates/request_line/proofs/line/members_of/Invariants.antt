use Rattle.std.proofs.Common.{◌≡◌, List, ◌++◌}
use Rattle.std.specs.List.{list_all}
use Rattle.serde_json.specs.View.{members_view}
use Rattle.serde_json.proofs.Views.{Entry}
use Rattle.request_line.specs.Table.{Members}
use Rattle.request_line.specs.Lines.{are_listed}
use Rattle.request_line.specs.LineMembers.{object_of, fits}
use Rattle.request_line.proofs.line.members_of.Given as goal

abbrev pub invariant-loop-name : goal.invariant-loop-name
invariant-loop-name l =
    (done : List Entry) × (l.members.entries ≡ done ++ l.name-iterator) × (object_of l.listed.items ≡ members_view done)
    × ((row : Members) → list_all (fits row) l.listed.items ≡ are_listed row (members_view done))
