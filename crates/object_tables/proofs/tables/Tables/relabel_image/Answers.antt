use Rattle.std.proofs.Common.{refl, [], ◌∷◌}
use Rattle.meta_types.specs.Labels.{put_label}
use Rattle.meta_types.specs.Rows.{image_key}
use Rattle.meta_types.specs.declared.rows.ImageRow.{ImageRow}
use Rattle.object_tables.proofs.OtherTables.{other_images}
use Rattle.object_tables.proofs.RowsAfter.{labelled}
use Rattle.object_tables.proofs.tables.Tables.relabel_image.Goals as goal

-- labels are no part of a row's place
pub invariant_of-self : goal.invariant_of-self
invariant_of-self c =
    other_images _ c.self.invariant _
    (labelled image_key (λ (row : ImageRow). row.ns) _ _ _ c.self.invariant.images
    (c.args.ns.now ∷ c.args.name.now ∷ [])
    (λ row. record row { labels = put_label c.args.key.now c.args.value.now row.labels })
    (λ row. refl) (λ row. refl) c.relabel.result c.relabel.ensures.ok c.relabel.ensures.err)
