use Rattle.request_core.proofs.Prepared.{added_fine}
use Rattle.object_tables.proofs.SnapTablesKept.{snapshots_again}
use Rattle.request_core.proofs.add.snapshot.grow_snap.Goals as goal

-- the row is taken out again
pub returns-clause-err : goal.returns-clause-err
returns-clause-err g c =
    let fine = added_fine c.args.records.now.tables c.args.row c.requires.fine in (
      snapshots_again c.args.records.now.tables c.requires.sound _ _ c.args.row
          c.in_ok-add_snap.ensures.ok
          (rw c.in_ok-key.ensures.ok at c.remove_snap.ensures.left) fine.0 fine.1,
      c.in-Err.ensures.err.0,
      c.in-Err.ensures.err.1,
    )
