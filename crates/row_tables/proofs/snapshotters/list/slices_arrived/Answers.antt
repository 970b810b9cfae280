use Rattle.std.proofs.Common.{◌++◌, sym, ap, ◌∙◌}
use Rattle.row_tables.proofs.HousedListings.{joined_more}
use Rattle.row_tables.proofs.snapshotters.list.slices_arrived.Goals as goal

-- the slices of one namespace more
pub loop-table-preserved : goal.loop-table-preserved
loop-table-preserved g c =
    c.in_ok-push_slices.ensures.ok
    ∙ ap (λ l. l ++ c.table-item.result) c.loop-table.invariant
    ∙ sym
    (joined_more c.args.tables.now c.loop-table.table-index c.table-item.result
    c.loop-table-test.true c.table-item.is)
