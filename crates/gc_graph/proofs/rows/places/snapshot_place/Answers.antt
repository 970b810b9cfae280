use Rattle.std.proofs.Common.{false, sym, ◌∙◌}
use Rattle.std.specs.Prelude.{◌&&◌, bytes_eq, slice_get}
use Rattle.std.specs.Option.{option_map_or}
use Rattle.meta_types.specs.declared.rows.SnapRow.{SnapRow}
use Rattle.gc_graph.proofs.NearPlaces.{snapshot_there}
use Rattle.gc_graph.proofs.rows.places.snapshot_place.Goals as goal

-- no key stands twice
pub returns-then-is_snapshot_at : goal.returns-then-is_snapshot_at
returns-then-is_snapshot_at c =
    let rows = c.args.rows.now in
    snapshot_there c.args.ns.now c.args.snapshotter.now c.args.name.now rows.snapshots.now
    rows.places.snapshots.now c.args.near c.requires.snapshots c.len-count.ensures.distinct
    ((λ i. option_map_or (λ (row : SnapRow).
    bytes_eq (sym c.text-2.ensures.text i) row.key.name
    && bytes_eq (sym c.text.ensures.text i) row.key.snapshotter
    && bytes_eq c.args.ns.now row.key.ns) (slice_get rows.snapshots.now c.args.near) false)
    ∙ sym c.is_snapshot_at.ensures ∙ c.if-is_snapshot_at.true)
