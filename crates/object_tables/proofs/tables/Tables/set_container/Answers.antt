use Rattle.std.proofs.Common.{refl, [], ◌∷◌}
use Rattle.meta_types.specs.Rows.{container_key}
use Rattle.meta_types.specs.declared.rows.ContainerRow.{ContainerRow}
use Rattle.object_tables.specs.Edits.{container_with}
use Rattle.object_tables.proofs.OtherTables.{other_containers}
use Rattle.object_tables.proofs.RowsAfter.{changed}
use Rattle.object_tables.proofs.tables.Tables.set_container.Goals as goal

-- none of the parts is of a row's place
pub invariant_of-self : goal.invariant_of-self
invariant_of-self c =
    other_containers _ c.self.invariant _
    (changed container_key (λ (row : ContainerRow). row.ns) _ _ _ c.self.invariant.containers
    (c.args.ns.now ∷ c.args.name.now ∷ [])
    (container_with c.args.snapshot c.args.labels c.args.extra) (λ row. refl) (λ row. refl)
    c.set_parts.ensures.left)
