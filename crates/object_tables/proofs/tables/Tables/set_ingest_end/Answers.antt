use Rattle.std.proofs.Common.{refl, [], ◌∷◌}
use Rattle.meta_types.specs.Rows.{ingest_key}
use Rattle.meta_types.specs.declared.rows.IngestRow.{IngestRow}
use Rattle.object_tables.specs.Edits.{ingest_until}
use Rattle.object_tables.proofs.OtherTables.{other_ingests}
use Rattle.object_tables.proofs.NumberedAfter.{ended}
use Rattle.object_tables.proofs.RowsAfter.{changed}
use Rattle.object_tables.proofs.tables.Tables.set_ingest_end.Goals as goal

-- an end is no part of a row's place, and its number stays
pub invariant_of-self : goal.invariant_of-self
invariant_of-self c =
    other_ingests _ c.self.invariant _
    (changed ingest_key (λ (row : IngestRow). row.ns) _ _ _ c.self.invariant.ingests
    (c.args.ns.now ∷ c.args.name.now ∷ [])
    (ingest_until c.args.expires) (λ row. refl) (λ row. refl) c.set_end.ensures.left)
    (ended _ _ _ c.self.invariant.numbered (c.args.ns.now ∷ c.args.name.now ∷ [])
    c.args.expires c.set_end.ensures.left)
