use Rattle.object_tables.proofs.OtherTables.{no_rows}
use Rattle.object_tables.proofs.tables.Tables.new.Goals as goal

-- there is no row yet
pub invariant_of-result : goal.invariant_of-result
invariant_of-result c =
    rw (
      c.new.ensures,
      c.new-2.ensures,
      c.new-3.ensures,
      c.new-4.ensures,
      c.new-5.ensures,
      c.new-6.ensures,
    ) no_rows
