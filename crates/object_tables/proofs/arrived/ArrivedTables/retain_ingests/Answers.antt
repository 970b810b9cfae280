use Rattle.std.proofs.Common.{◌≡◌, Bool, map, length, sym, ap, subst, ◌∙◌}
use Rattle.std.specs.Prelude.{filter}
use Rattle.meta_types.specs.Rows.{Tables, ingest_key}
use Rattle.meta_types.specs.declared.rows.IngestRow.{IngestRow}
use Rattle.row_tables.specs.Arrived.{sorted, kept}
use Rattle.row_tables.proofs.MarkedRows.{marks_in_order, kept_in_order}
use Rattle.object_tables.proofs.OtherTables.{other_ingests}
use Rattle.object_tables.proofs.NumberedAfter.{begun_left}
use Rattle.object_tables.proofs.RowsAfter.{left}
use Rattle.object_tables.proofs.arrived.ArrivedTables.retain_ingests.Goals as goal

-- in order, they are those that some marks leave
stayed : (c : goal.After-retain) → sorted ingest_key c.retain.new.self ≡ kept (marks_in_order ingest_key c.args.marks.now c.self.inside.ingests) (sorted ingest_key c.self.inside.ingests)
stayed c =
    kept_in_order ingest_key c.self.inside.ingests c.args.marks.now c.len.ensures.distinct (c.requires ∙ ap (λ (t : Tables). length t.ingests) (sym c.self.view_is)) c.retain.new.self c.retain.ensures.stays

-- some of them stay
pub invariant_of-self : goal.invariant_of-self
invariant_of-self c =
    other_ingests _ c.self.invariant _
    (left ingest_key (λ (row : IngestRow). row.ns) _ _ _ c.self.invariant.ingests (marks_in_order ingest_key c.args.marks.now c.self.inside.ingests) (stayed c))
    (begun_left _ _ _ c.self.invariant.numbered (marks_in_order ingest_key c.args.marks.now c.self.inside.ingests) (stayed c))

pub returns-clause-stays : goal.returns-clause-stays
returns-clause-stays c =
    subst (λ (t : Tables). (stays : IngestRow → Bool) → c.args.marks.now ≡ map stays t.ingests → sorted ingest_key c.retain.new.self ≡ filter stays (sorted ingest_key t.ingests)) c.self.view_is c.retain.ensures.stays
