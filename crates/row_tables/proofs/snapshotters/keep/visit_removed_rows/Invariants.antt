use Rattle.row_tables.specs.Namespaces.{joined}
use Rattle.row_tables.specs.Visiting.{gone, all_visited}
use Rattle.row_tables.proofs.HousedListings.{VisitsTables}
use Rattle.row_tables.proofs.snapshotters.keep.visit_removed_rows.Given as goal

-- the rows of the namespaces so far are visited
abbrev pub invariant-loop-table : goal.invariant-loop-table
invariant-loop-table g l =
    VisitsTables g.P.RemovedRows.after_visit (all_visited g.P.RemovedRows.after_visit (gone l.marks (joined l.tables)) l.initial.visitor) l.tables l.table-index l.rest l.visitor
