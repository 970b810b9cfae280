use Rattle.std.proofs.Common.{◌≡◌, Bool, List, map, length, sym, ap, subst, ◌∙◌}
use Rattle.std.specs.Prelude.{filter}
use Rattle.std.specs.List.{IsDistinct}
use Rattle.meta_types.specs.Rows.{Tables, snap_key, ingest_key}
use Rattle.meta_types.specs.Sound.{AreNumbered}
use Rattle.meta_types.specs.declared.rows.SnapRow.{SnapRow}
use Rattle.row_tables.specs.Arrived.{sorted, kept, same_key}
use Rattle.row_tables.proofs.MarkedRows.{marks_in_order, kept_in_order}
use Rattle.object_tables.proofs.OtherTables.{other_snapshots}
use Rattle.object_tables.proofs.RowsAfter.{left}
use Rattle.object_tables.proofs.arrived.ArrivedTables.retain_snapshots.Goals as goal

-- in order, they are those that some marks leave
stayed : (c : goal.After-retain) → sorted snap_key c.retain.new.self ≡ kept (marks_in_order snap_key c.args.marks.now c.self.inside.snapshots) (sorted snap_key c.self.inside.snapshots)
stayed c =
    kept_in_order snap_key c.self.inside.snapshots c.args.marks.now (subst (IsDistinct (same_key snap_key)) c.table.ensures c.len.ensures.distinct) (c.requires.length ∙ ap (λ (t : Tables). length t.snapshots) (sym c.self.view_is)) c.retain.new.self c.retain.ensures.stays

-- some of them stay
pub invariant_of-self : goal.invariant_of-self
invariant_of-self c =
    other_snapshots _ c.self.invariant _
    (left snap_key (λ (row : SnapRow). row.key.ns) _ _ _ c.self.invariant.snapshots (marks_in_order snap_key c.args.marks.now c.self.inside.snapshots) (stayed c))
    (subst (λ (rows : List SnapRow). AreNumbered (sorted snap_key rows) (sorted ingest_key c.self.inside.ingests)) (sym c.retain.ensures.left)
    (subst (λ (t : Tables). AreNumbered (sorted snap_key (kept c.args.marks.now t.snapshots)) (sorted ingest_key t.ingests)) (sym c.self.view_is) c.requires.numbered))

pub returns-clause-stays : goal.returns-clause-stays
returns-clause-stays c =
    subst (λ (t : Tables). (stays : SnapRow → Bool) → c.args.marks.now ≡ map stays t.snapshots → sorted snap_key c.retain.new.self ≡ filter stays (sorted snap_key t.snapshots)) c.self.view_is c.retain.ensures.stays
