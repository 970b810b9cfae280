use Rattle.table_sweep.proofs.Runs.{last_run, read_run}
use Rattle.table_sweep.proofs.places.run_at.Goals as goal

pub returns-then-is_in-clause-run : goal.returns-then-is_in-clause-run
returns-then-is_in-clause-run c s is =
    let inside = c.is_in.ensures c.if-is_in.true in
    last_run c.args.snapshots.now c.args.last.start c.args.last.end c.args.at s c.requires.last
    inside.0 inside.1 is

pub returns-clause-run : goal.returns-clause-run
returns-clause-run c s is =
    read_run c.args.snapshots.now c.run_of.result.start c.run_of.result.end c.args.at
    c.index-snapshots-at.result s
    c.index-snapshots-at.is is c.run_of.ensures.run
