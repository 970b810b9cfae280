use Rattle.std.proofs.Common.{sym, ◌∙◌}
use Rattle.row_tables.proofs.HousedListings.{rows_at, none_rows}
use Rattle.row_tables.proofs.NamespaceHomes.{at_given}
use Rattle.row_tables.proofs.namespaces.find.rows_of.Goals as goal

pub returns-in-Some-clause-rows : goal.returns-in-Some-clause-rows
returns-in-Some-clause-rows g c =
    c.rows.ensures.rows ∙ sym (rows_at g.K.Named.texts_of g.R.NamedRow.name_of g.R.GroupedRow.group_of c.args.ns.now c.args.groups.now.entries c.requires c.in-Some.home c.index.result.now
    (at_given c.args.groups.now.entries c.in-Some.home c.args.ns.now c.in-Some.ensures.found.0 c.index.result.now c.in-Some.ensures.found.1 c.index.ensures))

pub returns-in-None-clause-none : goal.returns-in-None-clause-none
returns-in-None-clause-none g c =
    none_rows g.K.Named.texts_of g.R.NamedRow.name_of g.R.GroupedRow.group_of c.args.ns.now
    c.args.groups.now.entries c.requires c.in-None.ensures.none
