use Rattle.std.proofs.Common.{◌∷◌, length, ap, sym, ◌∙◌, arith}
use Rattle.std.specs.Prelude.{is_some}
use Rattle.meta_types.proofs.Puts.{remove_absent}
use Rattle.row_tables.specs.Arrived.{sorted}
use Rattle.row_tables.specs.Namespaces.{all_rows}
use Rattle.row_tables.proofs.Arrivals.{length_sorted}
use Rattle.row_tables.proofs.RowCounts.{length_less}
use Rattle.row_tables.proofs.NamespacesArrived.{key}
use Rattle.row_tables.proofs.arrived_by_namespace.ArrivedByNamespace.take.Goals as goal

-- where none goes, as many are left
pub invariant_of-self : goal.invariant_of-self
invariant_of-self g c =
    let key_of = key g.K.Named.texts_of g.R.NamedRow.name_of g.R.GroupedRow.group_of in
    record {
      are = c.take_row.ensures.groups;
      full = c.take_row.ensures.full c.self.invariant.full;
      counted = c.self.invariant.counted
          ∙ sym (length_sorted key_of (all_rows c.self.inside.groups.entries))
          ∙ ap length
          (sym (c.take_row.ensures.left ∙ remove_absent key_of (c.args.ns.now ∷ g.K.Named.texts_of c.args.name.now) (sorted key_of (all_rows c.self.inside.groups.entries)) (ap is_some (sym c.in_err-row.ensures.row))))
          ∙ length_sorted key_of (all_rows c.take_row.new.groups.entries);
      fits = c.self.invariant.fits;
    }

-- and one less where one goes
pub invariant_of-self-2 : goal.invariant_of-self-2
invariant_of-self-2 g c =
    let key_of = key g.K.Named.texts_of g.R.NamedRow.name_of g.R.GroupedRow.group_of in
    record {
      are = c.take_row.ensures.groups;
      full = c.take_row.ensures.full c.self.invariant.full;
      counted =
          let less = length_less key_of (c.args.ns.now ∷ g.K.Named.texts_of c.args.name.now) (sorted key_of (all_rows c.self.inside.groups.entries)) c.in_ok-row.row (sym c.in_ok-row.ensures.row) in
          omega (arith, less, c.self.invariant.counted, ap length c.take_row.ensures.left, length_sorted key_of (all_rows c.self.inside.groups.entries), length_sorted key_of (all_rows c.take_row.new.groups.entries));
      fits = omega (arith, c.self.invariant.fits);
    }
