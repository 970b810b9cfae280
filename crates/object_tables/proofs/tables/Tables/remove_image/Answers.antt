use Rattle.std.proofs.Common.{[], ◌∷◌}
use Rattle.meta_types.specs.Rows.{image_key}
use Rattle.meta_types.specs.declared.rows.ImageRow.{ImageRow}
use Rattle.object_tables.proofs.OtherTables.{other_images}
use Rattle.object_tables.proofs.RowsAfter.{removed}
use Rattle.object_tables.proofs.tables.Tables.remove_image.Goals as goal

-- one goes, or none
pub invariant_of-self : goal.invariant_of-self
invariant_of-self c =
    other_images _ c.self.invariant _
    (removed image_key (λ (row : ImageRow). row.ns) _ _ _ c.self.invariant.images
    (c.args.ns.now ∷ c.args.name.now ∷ [])
    c.remove.ensures.left)
