use Rattle.std.proofs.Common.{◌++◌, Bor, List, take, sym, ap, ◌∙◌}
use Rattle.std.specs.List.{flat_map}
use Rattle.row_tables.specs.Namespaces.{joined}
use Rattle.row_tables.proofs.HousedListings.{joined_more}
use Rattle.row_tables.proofs.SliceCuts.{pushed}
use Rattle.row_tables.proofs.namespaces.list.push_slices.Goals as goal

-- the slice of one namespace more
pub loop-table-preserved : goal.loop-table-preserved
loop-table-preserved g c =
    let tables = c.args.tables.now in
    let i = c.loop-table.table-index in
    let start = flat_map (λ (rows : Bor (List g.row.R.Denot)). rows.now) c.args.slices.now.items in
    let so = joined (take i tables) in
    pushed (λ (rows : Bor (List g.row.R.Denot)). rows.now) c.loop-table.slices.items
    c.push.new.self.items c.rows.result start so c.in_ok-push.ensures.items c.loop-table.invariant
    ∙ ap (λ l. start ++ l)
    (ap (λ l. so ++ l) c.rows.ensures.rows
    ∙ sym (joined_more tables i c.table-item.result c.loop-table-test.true c.table-item.is))
