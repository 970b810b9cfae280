use Rattle.row_tables.specs.Namespaces.{all_rows}
use Rattle.std.proofs.Common.{◌≡◌, take, length}
use Rattle.row_tables.proofs.Starts.{AreFront}
use Rattle.row_tables.proofs.snapshotters.find.starts_of.Given as goal

-- the namespaces so far, and where the next begins
abbrev pub invariant-loop-at : goal.invariant-loop-at
invariant-loop-at g l =
    AreFront l.groups.entries l.starts.items l.at × (l.first ≡ length (all_rows (take l.at l.groups.entries)))
