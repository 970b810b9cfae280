use Rattle.std.proofs.Common.{◌≡◌, ◌∙◌, true, nat_lt, sym, ap}
use Rattle.std.specs.List.{list_all}
use Rattle.meta_types.specs.declared.rows.SnapRow.{SnapRow}
use Rattle.object_tables.proofs.tables.Tables.is_above.Goals as goal

-- the snapshots' numbers are below, so the ingests' decide
pub returns-then-all-clause-above : goal.returns-then-all-clause-above
returns-then-all-clause-above c =
    let number = c.args.number in
    let first : list_all (λ (row : SnapRow). nat_lt row.number number) c.self.inside.snapshots
    ≡ true =
    ap (list_all (λ (row : SnapRow). nat_lt row.number number)) (sym c.table.ensures)
    ∙ sym c.all.ensures ∙ c.if-all.true in
    rw (← c.self.view_is, first) c.all-then-all.ensures
