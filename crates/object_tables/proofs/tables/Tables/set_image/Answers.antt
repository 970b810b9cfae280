use Rattle.std.proofs.Common.{refl, [], ◌∷◌}
use Rattle.meta_types.specs.Rows.{image_key}
use Rattle.meta_types.specs.declared.rows.ImageRow.{ImageRow}
use Rattle.object_tables.specs.Edits.{image_with}
use Rattle.object_tables.proofs.OtherTables.{other_images}
use Rattle.object_tables.proofs.RowsAfter.{changed}
use Rattle.object_tables.proofs.tables.Tables.set_image.Goals as goal

-- none of the parts is of a row's place
pub invariant_of-self : goal.invariant_of-self
invariant_of-self c =
    other_images _ c.self.invariant _
    (changed image_key (λ (row : ImageRow). row.ns) _ _ _ c.self.invariant.images
    (c.args.ns.now ∷ c.args.name.now ∷ [])
    (image_with c.args.target c.args.labels c.args.extra) (λ row. refl) (λ row. refl)
    c.set_parts.ensures.left)
