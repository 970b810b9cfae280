use Rattle.std.proofs.Common.{refl, arith}
use Rattle.row_tables.proofs.HousedListings.{tables_within, tables_more, tables_all}
use Rattle.row_tables.proofs.snapshotters.keep.visit_removed_rows.Goals as goal

pub loop-table-init : goal.loop-table-init
loop-table-init g c = record { len = c.requires; visited = refl }

-- the marks that are left are of the namespaces that are left
pub split_at-requires : goal.split_at-requires
split_at-requires g c =
    tables_within g.P.RemovedRows.after_visit c.loop-table.invariant c.loop-table-test.true
    c.table-item.is c.len.ensures.len

-- the rows of one namespace more are visited
pub loop-table-preserved : goal.loop-table-preserved
loop-table-preserved g c =
    tables_more g.P.RemovedRows.after_visit c.loop-table.invariant c.loop-table-test.true
    c.table-item.is c.len.ensures.len c.split_at.ensures.front c.split_at.ensures.back
    c.visit_removed.ensures

pub returns : goal.returns
returns g c =
    tables_all g.P.RemovedRows.after_visit c.loop-table.invariant
    (omega (arith, c.loop-table-test.false))
