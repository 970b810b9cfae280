use Rattle.std.proofs.Common.{◌++◌, map, take, sym, ap, ◌∙◌}
use Rattle.std.proofs.lemmas.List.{map-append}
use Rattle.row_tables.specs.Namespaces.{joined}
use Rattle.row_tables.proofs.HousedListings.{joined_more}
use Rattle.row_tables.proofs.namespaces.list.rows_arrived.Goals as goal

-- the rows of one namespace more
pub loop-table-preserved : goal.loop-table-preserved
loop-table-preserved g c =
    ap (map (λ row. row.now)) c.in_ok-append.ensures.items
    ∙ map-append (λ row. row.now) c.loop-table.list.items c.in_ok-rows.rows.items
    ∙ ap (λ rows. rows ++ map (λ row. row.now) c.in_ok-rows.rows.items) c.loop-table.invariant
    ∙ ap (λ rows. joined (take c.loop-table.table-index c.args.tables.now) ++ rows)
    (c.in_ok-rows.ensures.ok ∙ c.rows.ensures.rows)
    ∙ sym
    (joined_more c.args.tables.now c.loop-table.table-index c.table-item.result c.loop-table-test.true c.table-item.is)
