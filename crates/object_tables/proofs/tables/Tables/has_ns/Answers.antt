use Rattle.std.proofs.Common.{sym, subst}
use Rattle.meta_types.specs.Sound.{AreTables}
use Rattle.object_tables.proofs.OrderStays.{names_row}
use Rattle.object_tables.proofs.OtherTables.{tables_in_order}
use Rattle.object_tables.proofs.tables.Tables.has_ns.Goals as goal

-- a namespace is found by its text
pub returns-clause-there : goal.returns-clause-there
returns-clause-there c =
    rw (c.has.ensures, ← c.self.view_is)
    (sym (names_row c.args.ns.now c.self.inside.namespaces))

-- as the tables themselves keep
pub returns-clause-sound : goal.returns-clause-sound
returns-clause-sound c = subst AreTables c.self.view_is c.self.invariant

pub returns-clause-order : goal.returns-clause-order
returns-clause-order c = tables_in_order _ (subst AreTables c.self.view_is c.self.invariant)
