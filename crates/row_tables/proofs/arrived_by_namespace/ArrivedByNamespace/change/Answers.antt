use Rattle.std.proofs.Common.{◌∷◌, sym, ◌∙◌}
use Rattle.row_tables.specs.Namespaces.{all_rows}
use Rattle.row_tables.proofs.RowCounts.{length_changed_rows}
use Rattle.row_tables.proofs.NamespacesArrived.{key}
use Rattle.row_tables.proofs.arrived_by_namespace.ArrivedByNamespace.change.Goals as goal

-- a change leaves as many rows
pub invariant_of-self : goal.invariant_of-self
invariant_of-self g c =
    let key_of = key g.K.Named.texts_of g.R.NamedRow.name_of g.R.GroupedRow.group_of in
    record {
      are = c.change_row.ensures.groups;
      full = c.change_row.ensures.full c.self.invariant.full;
      counted = c.self.invariant.counted
          ∙ sym
          (length_changed_rows key_of (c.args.ns.now ∷ g.K.Named.texts_of c.args.name.now) (g.C.Change.changes c.args.change) (all_rows c.self.inside.groups.entries) (all_rows c.change_row.new.groups.entries) c.change_row.result c.change_row.ensures.same c.change_row.ensures.changed);
      fits = c.self.invariant.fits;
    }
