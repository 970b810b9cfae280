use Rattle.std.proofs.Common.{rules, ◌≡◌, ◌∙◌, sym, ap, length}
use Rattle.row_tables.specs.Arrived.{by_name}
use Rattle.row_tables.proofs.Arrivals.{length_sorted}
use Rattle.object_tables.specs.HeldNames.{names_held}
use Rattle.object_tables.proofs.names.Names.len.Goals as goal

-- as many names as arrived
pub returns-in-Several : goal.returns-in-Several
returns-in-Several g c =
    let held : c.table.result.now ≡ names_held c.self.inside.held = search rules in
    c.len.ensures.len ∙ ap length held
    ∙ sym (length_sorted (by_name g.N.Named.texts_of g.N.NamedRow.name_of)
    (names_held c.self.inside.held))
    ∙ ap length c.self.view_is
