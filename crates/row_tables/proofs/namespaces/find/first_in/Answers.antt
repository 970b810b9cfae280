use Rattle.std.proofs.Common.{length, take, drop, sym, ◌∙◌}
use Rattle.row_tables.specs.Namespaces.{all_rows}
use Rattle.row_tables.proofs.HousedListings.{rows_at, none_rows}
use Rattle.row_tables.proofs.NamespaceSpans.{span_there}
use Rattle.row_tables.proofs.namespaces.find.first_in.Goals as goal

-- the rows of a namespace stand behind those of the namespaces before
pub returns-in-Some-clause-first : goal.returns-in-Some-clause-first
returns-in-Some-clause-first g c =
    let home = c.in-Some.ensures.found in
    let own = rows_at g.K.Named.texts_of g.R.NamedRow.name_of g.R.GroupedRow.group_of c.args.ns.now c.args.groups.now.entries c.requires.are c.in-Some.home home.0 home.1 in
    (λ i. take (length (own i)) (drop (c.requires.starts.each c.in-Some.home c.in-Some.ensures.within i) (all_rows c.args.groups.now.entries)))
    ∙ span_there c.args.groups.now.entries c.in-Some.home c.args.ns.now home.0 home.1 ∙ sym own

pub returns-in-None-clause-none : goal.returns-in-None-clause-none
returns-in-None-clause-none g c =
    none_rows g.K.Named.texts_of g.R.NamedRow.name_of g.R.GroupedRow.group_of c.args.ns.now
    c.args.groups.now.entries c.requires.are c.in-None.ensures.none
