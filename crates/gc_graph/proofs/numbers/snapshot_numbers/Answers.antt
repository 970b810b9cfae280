use Rattle.std.proofs.Common.{Some, None, sym, ◌∙◌}
use Rattle.meta_types.specs.declared.resource.Mode.TheVariants.{Full, Flat}
use Rattle.gc_graph.proofs.NumberPlaces.{snapshot_found}
use Rattle.gc_graph.proofs.numbers.snapshot_numbers.Goals as goal

-- the place of the row stands behind the first number of each mode
pub returns-in-Some-clause-full : goal.returns-in-Some-clause-full
returns-in-Some-clause-full c =
    snapshot_found c.args.rows.now c.requires.lent c.args.ns.now Full c.args.snapshotter.now
    c.args.name.now c.first_snapshot-full.result (Some c.in-Some.place)
    c.first_snapshot-full.ensures (sym c.in-Some.is ∙ c.snapshot_place.ensures)

pub returns-in-Some-clause-flat : goal.returns-in-Some-clause-flat
returns-in-Some-clause-flat c =
    snapshot_found c.args.rows.now c.requires.lent c.args.ns.now Flat c.args.snapshotter.now
    c.args.name.now c.first_snapshot-flat.result (Some c.in-Some.place)
    c.first_snapshot-flat.ensures (sym c.in-Some.is ∙ c.snapshot_place.ensures)

pub returns-in-None-clause-full : goal.returns-in-None-clause-full
returns-in-None-clause-full c =
    snapshot_found c.args.rows.now c.requires.lent c.args.ns.now Full c.args.snapshotter.now
    c.args.name.now c.first_snapshot-full.result None c.first_snapshot-full.ensures
    (sym c.in-None.is ∙ c.snapshot_place.ensures)

pub returns-in-None-clause-flat : goal.returns-in-None-clause-flat
returns-in-None-clause-flat c =
    snapshot_found c.args.rows.now c.requires.lent c.args.ns.now Flat c.args.snapshotter.now
    c.args.name.now c.first_snapshot-flat.result None c.first_snapshot-flat.ensures
    (sym c.in-None.is ∙ c.snapshot_place.ensures)
