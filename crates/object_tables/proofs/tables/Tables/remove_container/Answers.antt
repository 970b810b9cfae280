use Rattle.std.proofs.Common.{[], ◌∷◌}
use Rattle.meta_types.specs.Rows.{container_key}
use Rattle.meta_types.specs.declared.rows.ContainerRow.{ContainerRow}
use Rattle.object_tables.proofs.OtherTables.{other_containers}
use Rattle.object_tables.proofs.RowsAfter.{removed}
use Rattle.object_tables.proofs.tables.Tables.remove_container.Goals as goal

-- one goes, or none
pub invariant_of-self : goal.invariant_of-self
invariant_of-self c =
    other_containers _ c.self.invariant _
    (removed container_key (λ (row : ContainerRow). row.ns) _ _ _ c.self.invariant.containers
    (c.args.ns.now ∷ c.args.name.now ∷ [])
    c.remove.ensures.left)
