use Rattle.std.proofs.Common.{◌≡◌, true, refl, rules, subst, sym, ap, ◌∙◌}
use Rattle.meta_types.specs.Keys.{has_row, add_row}
use Rattle.meta_types.specs.Rows.{Tables, ingest_key}
use Rattle.meta_types.specs.Changes.{has_namespace}
use Rattle.meta_types.specs.Sound.{AreNumbered}
use Rattle.meta_types.specs.declared.rows.IngestRow.{IngestRow}
use Rattle.object_tables.proofs.OtherTables.{other_ingests}
use Rattle.object_tables.proofs.NumberedAfter.{begun_new}
use Rattle.object_tables.proofs.RowsAfter.{grown_new}
use Rattle.object_tables.proofs.tables.Tables.add_ingest.Goals as goal

-- one more, in a namespace that is there, where none has its key, under a number that is free
pub invariant_of-self : goal.invariant_of-self
invariant_of-self c =
    let there : has_namespace c.args.self.now c.args.row.ns ≡ true = search rules in
    other_ingests _ c.self.invariant _
    (grown_new ingest_key (λ (row : IngestRow). row.ns) _ _ _ c.self.invariant.ingests c.args.row
    c.add_new.result
    (subst (λ (t : Tables). has_namespace t c.args.row.ns ≡ true) (sym c.self.view_is) there)
    c.add_new.ensures.fault c.add_new.ensures.ok c.add_new.ensures.err)
    (begun_new _ _ _ c.self.invariant.numbered c.args.row c.add_new.result
    (λ free. subst (λ (t : Tables). AreNumbered t.snapshots (add_row ingest_key c.args.row t.ingests))
    (sym c.self.view_is) (c.requires.numbered (rw (
      there,
      sym
          (ap (λ (t : Tables). has_row ingest_key (ingest_key c.args.row) t.ingests) c.self.view_is)
          ∙ free,
    ) refl)))
    c.add_new.ensures.fault c.add_new.ensures.ok c.add_new.ensures.err)
