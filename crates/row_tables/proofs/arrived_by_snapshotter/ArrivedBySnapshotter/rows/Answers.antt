use Rattle.std.proofs.Common.{◌≡◌, List, subst}
use Rattle.std.specs.Prelude.{IfSome, filter, bytes_eq, ◌&&◌}
use Rattle.row_tables.proofs.arrived_by_snapshotter.ArrivedBySnapshotter.rows.Goals as goal

pub returns-clause-rows : goal.returns-clause-rows
returns-clause-rows g c =
    subst
    (λ (rows : List g.row.R.Denot). IfSome c.rows_of.result (λ lent. lent.now ≡ filter (λ row. bytes_eq c.args.ns.now (g.R.SnapshotterRow.ns_of row) && bytes_eq c.args.snapshotter.now (g.R.GroupedRow.group_of row)) rows)) c.self.view_is c.rows_of.ensures.rows
