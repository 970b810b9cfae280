use Rattle.std.proofs.Common.{Some, sym, ◌∙◌}
use Rattle.meta_types.specs.declared.resource.Mode.TheVariants.{Full}
use Rattle.gc_graph.proofs.NearPlaces.{snapshot_there}
use Rattle.gc_graph.proofs.NumberPlaces.{snapshot_found}
use Rattle.gc_graph.proofs.numbers.near_snapshot_number.Goals as goal

-- the place behind the first number
pub returns : goal.returns
returns c =
    let rows = c.args.rows.now in
    let ns = c.args.ns.now in
    let snapshotter = c.args.snapshotter.now in
    let name = c.args.name.now in
    let near = c.args.near.now in
    snapshot_found rows c.requires.lent ns Full snapshotter name c.first_snapshot.result (Some near)
    c.first_snapshot.ensures
    (snapshot_there ns snapshotter name rows.snapshots.now rows.places.snapshots.now near
    c.requires.lent.snapshots c.len-count.ensures.distinct
    (sym c.is_snapshot_at.ensures ∙ c.if-not-is_snapshot_at.false))
