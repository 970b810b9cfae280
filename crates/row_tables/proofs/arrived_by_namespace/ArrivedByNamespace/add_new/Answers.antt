use Rattle.std.proofs.Common.{length, ap, arith}
use Rattle.row_tables.specs.Arrived.{sorted}
use Rattle.row_tables.specs.Namespaces.{all_rows}
use Rattle.row_tables.proofs.Arrivals.{length_sorted}
use Rattle.row_tables.proofs.RowCounts.{length_more}
use Rattle.row_tables.proofs.NamespacesArrived.{key}
use Rattle.row_tables.proofs.arrived_by_namespace.ArrivedByNamespace.add_new.Goals as goal

-- one row more
pub invariant_of-self-2 : goal.invariant_of-self-2
invariant_of-self-2 g c =
    let key_of = key g.K.Named.texts_of g.R.NamedRow.name_of g.R.GroupedRow.group_of in
    record {
      are = c.add_new_row.ensures.groups;
      full = c.add_new_row.ensures.full c.self.invariant.full;
      counted =
          let more = length_more key_of c.args.row (sorted key_of (all_rows c.self.inside.groups.entries)) in
          omega (arith, more, c.self.invariant.counted, ap length c.in_ok-add_new_row.ensures.ok, length_sorted key_of (all_rows c.self.inside.groups.entries), length_sorted key_of (all_rows c.add_new_row.new.groups.entries));
      fits = omega (arith, c.if-self.false, c.self.invariant.fits);
    }
