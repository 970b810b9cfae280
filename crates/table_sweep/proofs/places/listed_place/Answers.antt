use Rattle.table_sweep.proofs.Runs.{numbered, wider}
use Rattle.table_sweep.proofs.places.listed_place.Goals as goal

-- the number is the snapshotter's there
pub returns-then-has_number : goal.returns-then-has_number
returns-then-has_number c =
    numbered c.args.snapshots.now c.requires.listed c.args.snapshotter.now c.args.run.start
    c.args.run.end c.args.number c.saturating_sub-near.result c.requires.end c.requires.run
    (c.has_number.ensures c.if-has_number.true)

pub returns-in-Some : goal.returns-in-Some
returns-in-Some c =
    numbered c.args.snapshots.now c.requires.listed c.args.snapshotter.now c.args.run.start
    c.args.run.end c.args.number c.in-Some.place c.requires.end c.requires.run
    (wider c.args.snapshots.now c.args.run.start c.args.run.end c.part_of-part.result.start
    c.part_of-part.result.end c.args.number c.in-Some.place c.part_of-part.ensures.start
    c.part_of-part.ensures.end c.in-Some.ensures)
