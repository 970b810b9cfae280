use Rattle.row_tables.specs.Namespaces.{full_key}
use Rattle.row_tables.proofs.HousedListings.{only_row}
use Rattle.row_tables.proofs.snapshotters.change.only.Goals as goal
use Rattle.std.proofs.Common.{◌∙◌, ap}
use Rattle.meta_types.specs.Keys.{add_row}
use Rattle.row_tables.specs.Arrived.{sorted}

pub returns-clause-ok : goal.returns-clause-ok
returns-clause-ok g c =
    only_row
    (full_key g.K.Named.texts_of g.R.NamedRow.name_of g.R.GroupedRow.group_of) c.args.row c.add_new.new.self
    (c.in_ok-add_new.ensures.ok ∙ ap (λ l. add_row (full_key g.K.Named.texts_of g.R.NamedRow.name_of g.R.GroupedRow.group_of) c.args.row (sorted (full_key g.K.Named.texts_of g.R.NamedRow.name_of g.R.GroupedRow.group_of) l)) c.new-rows.ensures)
