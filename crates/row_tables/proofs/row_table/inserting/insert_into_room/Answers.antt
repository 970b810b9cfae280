use Rattle.std.proofs.Common.{◌≡◌, Some, rules, ◌∙◌}
use Rattle.std.specs.Map.{lookup}
use Rattle.indexmap.specs.IndexMap.{insert_entry}
use Rattle.row_tables.proofs.Entries.{same_entry}
use Rattle.row_tables.proofs.row_table.inserting.insert_into_room.Goals as goal

-- the row that is there stays: the map ends as if it were put there again
pub returns-in-Ok-Occupied-clause-err : goal.returns-in-Ok-Occupied-clause-err
returns-in-Ok-Occupied-clause-err g c =
    let eq = g.K.PartialEq.eq in
    let es = c.args.rows.now.entries in
    let v = c.into_mut.result.now in
    let found : lookup (eq c.args.name) es ≡ Some v = search rules in
    ◌∙◌ {b = insert_entry eq es c.args.name v} (search rules)
    (same_entry eq g.K.Named.texts_of g.R.NamedRow.name_of g.met.K.Named.same c.args.name v es found)
