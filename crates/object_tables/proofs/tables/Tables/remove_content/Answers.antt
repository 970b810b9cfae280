use Rattle.std.proofs.Common.{[], ◌∷◌}
use Rattle.meta_types.specs.Rows.{content_key}
use Rattle.meta_types.specs.declared.rows.ContentRow.{ContentRow}
use Rattle.object_tables.proofs.OtherTables.{other_content}
use Rattle.object_tables.proofs.RowsAfter.{removed}
use Rattle.object_tables.proofs.tables.Tables.remove_content.Goals as goal

-- one goes, or none
pub invariant_of-self : goal.invariant_of-self
invariant_of-self c =
    other_content _ c.self.invariant _
    (removed content_key (λ (row : ContentRow). row.ns) _ _ _ c.self.invariant.content
    (c.args.ns.now ∷ c.args.digest.now ∷ [])
    c.remove.ensures.left)
