use Rattle.std.proofs.Common.{[], ◌∷◌}
use Rattle.meta_types.specs.Rows.{ingest_key}
use Rattle.meta_types.specs.declared.rows.IngestRow.{IngestRow}
use Rattle.object_tables.proofs.OtherTables.{other_ingests}
use Rattle.object_tables.proofs.NumberedAfter.{begun_removed}
use Rattle.object_tables.proofs.RowsAfter.{removed}
use Rattle.object_tables.proofs.tables.Tables.remove_ingest.Goals as goal

-- one goes, or none
pub invariant_of-self : goal.invariant_of-self
invariant_of-self c =
    other_ingests _ c.self.invariant _
    (removed ingest_key (λ (row : IngestRow). row.ns) _ _ _ c.self.invariant.ingests
    (c.args.ns.now ∷ c.args.name.now ∷ [])
    c.remove.ensures.left)
    (begun_removed _ _ _ c.self.invariant.numbered (c.args.ns.now ∷ c.args.name.now ∷ [])
    c.remove.ensures.left)
