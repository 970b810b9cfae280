use Rattle.std.proofs.Common.{refl, [], ◌∷◌}
use Rattle.meta_types.specs.Rows.{content_key}
use Rattle.meta_types.specs.declared.rows.ContentRow.{ContentRow}
use Rattle.object_tables.specs.Edits.{content_with}
use Rattle.object_tables.proofs.OtherTables.{other_content}
use Rattle.object_tables.proofs.RowsAfter.{changed}
use Rattle.object_tables.proofs.tables.Tables.set_content.Goals as goal

-- none of the parts is of a row's place
pub invariant_of-self : goal.invariant_of-self
invariant_of-self c =
    other_content _ c.self.invariant _
    (changed content_key (λ (row : ContentRow). row.ns) _ _ _ c.self.invariant.content
    (c.args.ns.now ∷ c.args.digest.now ∷ [])
    (content_with c.args.labels c.args.extra) (λ row. refl) (λ row. refl)
    c.set_parts.ensures.left)
