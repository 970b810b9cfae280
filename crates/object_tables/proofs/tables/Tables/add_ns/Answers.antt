use Rattle.std.proofs.Common.{Bool, false, sym, subst, ap, ◌∙◌}
use Rattle.meta_types.specs.Rows.{Tables}
use Rattle.meta_types.specs.Changes.{has_namespace}
use Rattle.meta_types.specs.Faults.{Refuses, least_of}
use Rattle.object_tables.proofs.OrderStays.{names_row}
use Rattle.object_tables.proofs.OtherTables.{namespace_grown}
use Rattle.object_tables.proofs.tables.Tables.add_ns.Goals as goal

-- a namespace that is there is found by its text
pub returns-clause-fault : goal.returns-clause-fault
returns-clause-fault c =
    subst (λ (there : Bool). Refuses c.add.result (least_of false false there false))
    (sym (names_row c.args.ns c.self.inside.namespaces)
    ∙ ap (λ (t : Tables). has_namespace t c.args.ns) c.self.view_is) c.add.ensures.fault

-- one more, or as before
pub invariant_of-self : goal.invariant_of-self
invariant_of-self c =
    namespace_grown _ c.self.invariant c.args.ns _ c.add.result c.add.ensures.fault
    c.add.ensures.ok c.add.ensures.err
