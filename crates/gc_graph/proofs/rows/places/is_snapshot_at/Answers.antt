use Rattle.std.proofs.Common.{false, ◌∙◌}
use Rattle.std.specs.Prelude.{◌&&◌, bytes_eq}
use Rattle.meta_types.specs.declared.rows.SnapRow.{SnapRow}
use Rattle.gc_graph.proofs.NearPlaces.{tested_there, untested}
use Rattle.gc_graph.proofs.rows.places.is_snapshot_at.Goals as goal

pub returns-in-Some : goal.returns-in-Some
returns-in-Some c =
    c.is_snapshot.ensures
    ∙ tested_there (λ (row : SnapRow). bytes_eq c.args.name.now row.key.name
    && bytes_eq c.args.snapshotter.now row.key.snapshotter && bytes_eq c.args.ns.now row.key.ns)
    false c.at.result _ c.in-Some.row c.in-Some.is c.at.ensures

pub returns-in-None : goal.returns-in-None
returns-in-None c =
    untested (λ (row : SnapRow). bytes_eq c.args.name.now row.key.name
    && bytes_eq c.args.snapshotter.now row.key.snapshotter && bytes_eq c.args.ns.now row.key.ns)
    false c.at.result _ c.in-None.is c.at.ensures
