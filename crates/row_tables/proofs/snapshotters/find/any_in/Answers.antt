use Rattle.row_tables.specs.Namespaces.{full_key, own_texts}
use Rattle.std.proofs.Common.{sym}
use Rattle.row_tables.proofs.HousedListings.{any_at, none_any}
use Rattle.row_tables.proofs.snapshotters.find.any_in.Goals as goal

-- a namespace that is there has a row
pub returns-in-Some : goal.returns-in-Some
returns-in-Some g c =
    sym
    (any_at own_texts (full_key g.K.Named.texts_of g.R.NamedRow.name_of g.R.GroupedRow.group_of) g.R.SnapshotterRow.ns_of c.args.ns.now c.args.groups.now.entries c.requires.are c.in-Some._home c.in-Some.ensures.found.0 c.in-Some.ensures.found.1 c.requires.full)

pub returns-in-None : goal.returns-in-None
returns-in-None g c =
    sym
    (none_any own_texts (full_key g.K.Named.texts_of g.R.NamedRow.name_of g.R.GroupedRow.group_of) g.R.SnapshotterRow.ns_of c.args.ns.now c.args.groups.now.entries c.requires.are c.in-None.ensures.none)
