use Rattle.std.proofs.Common.{◌≡◌, true, rules, subst, sym}
use Rattle.meta_types.specs.Rows.{Tables, container_key}
use Rattle.meta_types.specs.Changes.{has_namespace}
use Rattle.meta_types.specs.declared.rows.ContainerRow.{ContainerRow}
use Rattle.object_tables.proofs.OtherTables.{other_containers}
use Rattle.object_tables.proofs.RowsAfter.{grown_new}
use Rattle.object_tables.proofs.tables.Tables.add_container.Goals as goal

-- one more, in a namespace that is there, where none has its key
pub invariant_of-self : goal.invariant_of-self
invariant_of-self c =
    let there : has_namespace c.args.self.now c.args.row.ns ≡ true = search rules in
    other_containers _ c.self.invariant _
    (grown_new container_key (λ (row : ContainerRow). row.ns) _ _ _ c.self.invariant.containers
    c.args.row c.add_new.result
    (subst (λ (t : Tables). has_namespace t c.args.row.ns ≡ true) (sym c.self.view_is) there)
    c.add_new.ensures.fault c.add_new.ensures.ok c.add_new.ensures.err)
