use Rattle.std.proofs.Common.{sym, ◌∙◌}
use Rattle.object_tables.proofs.tables.Tables.is_in_use.Goals as goal

-- the first four kinds have no row in it, so the fifth decides
pub returns : goal.returns
returns c = rw (
  ← c.self.view_is,
  sym c.any_in.ensures ∙ c.if-any_in.false,
  sym c.any_in-2.ensures
      ∙ c.if-any_in-2.false,
  sym c.any_in-3.ensures ∙ c.if-any_in-3.false,
  sym c.any_in-4.ensures
      ∙ c.if-any_in-4.false,
) (rw (c.table.ensures) at c.any_in-5.ensures)
