use Rattle.row_tables.proofs.SweptNamespaces.{Retains}
use Rattle.row_tables.proofs.snapshotters.keep.retain_rows.Given as goal

-- the namespaces so far are done; each still has its name and its own rows
abbrev pub invariant-loop-at : goal.invariant-loop-at
invariant-loop-at g l =
    Retains g.R.SnapshotterRow.ns_of l.marks l.initial.groups.entries l.groups.entries l.at l.rest
