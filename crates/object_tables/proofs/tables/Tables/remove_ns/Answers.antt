use Rattle.std.proofs.Common.{◌≡◌, false, rules, subst, sym}
use Rattle.meta_types.specs.Rows.{Tables}
use Rattle.meta_types.specs.Changes.{is_in_use}
use Rattle.object_tables.proofs.OtherTables.{namespace_removed}
use Rattle.object_tables.proofs.tables.Tables.remove_ns.Goals as goal

-- one goes that no row is in
pub invariant_of-self : goal.invariant_of-self
invariant_of-self c =
    let unused : is_in_use c.args.self.now c.args.ns.now ≡ false = search rules in
    rw c.remove.ensures
    (namespace_removed _ c.self.invariant c.args.ns.now
    (subst (λ (t : Tables). is_in_use t c.args.ns.now ≡ false) (sym c.self.view_is) unused))
