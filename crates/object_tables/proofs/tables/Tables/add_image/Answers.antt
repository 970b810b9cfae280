use Rattle.std.proofs.Common.{◌≡◌, true, rules, subst, sym}
use Rattle.meta_types.specs.Rows.{Tables, image_key}
use Rattle.meta_types.specs.Changes.{has_namespace}
use Rattle.meta_types.specs.declared.rows.ImageRow.{ImageRow}
use Rattle.object_tables.proofs.OtherTables.{other_images}
use Rattle.object_tables.proofs.RowsAfter.{grown_new}
use Rattle.object_tables.proofs.tables.Tables.add_image.Goals as goal

-- one more, in a namespace that is there, where none has its key
pub invariant_of-self : goal.invariant_of-self
invariant_of-self c =
    let there : has_namespace c.args.self.now c.args.row.ns ≡ true = search rules in
    other_images _ c.self.invariant _
    (grown_new image_key (λ (row : ImageRow). row.ns) _ _ _ c.self.invariant.images c.args.row
    c.add_new.result
    (subst (λ (t : Tables). has_namespace t c.args.row.ns ≡ true) (sym c.self.view_is) there)
    c.add_new.ensures.fault c.add_new.ensures.ok c.add_new.ensures.err)
