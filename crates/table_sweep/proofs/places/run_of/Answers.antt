use Rattle.table_sweep.proofs.Runs.{run_is}
use Rattle.table_sweep.proofs.places.run_of.Goals as goal

pub returns-clause-run : goal.returns-clause-run
returns-clause-run c =
    run_is c.args.snapshots.now c.requires c.args.snapshotter.now c.run_start-start.result
    c.run_end-end.result
    c.run_end-end.ensures.end c.run_start-start.ensures c.run_end-end.ensures.before
