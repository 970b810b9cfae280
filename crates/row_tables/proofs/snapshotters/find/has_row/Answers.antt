use Rattle.row_tables.specs.Namespaces.{full_key, own_texts}
use Rattle.std.specs.Prelude.{◌∷◌, is_some}
use Rattle.std.proofs.Common.{sym, ap, ◌∙◌}
use Rattle.row_tables.proofs.HousedNamespaces.{found_at, none_at}
use Rattle.row_tables.proofs.NamespaceHomes.{at_given}
use Rattle.row_tables.proofs.snapshotters.find.has_row.Goals as goal

-- the row is among those of its namespace
pub returns-in-Some : goal.returns-in-Some
returns-in-Some g c =
    c.has.ensures
    ∙ ap is_some (found_at own_texts (full_key g.K.Named.texts_of g.R.NamedRow.name_of g.R.GroupedRow.group_of) g.R.SnapshotterRow.ns_of c.args.ns.now c.in-Some.home c.index.result.now c.args.groups.now.entries
    (at_given c.args.groups.now.entries c.in-Some.home c.args.ns.now c.in-Some.ensures.found.0 c.index.result.now c.in-Some.ensures.found.1 c.index.ensures) c.requires (c.args.snapshotter.now ∷ g.K.Named.texts_of c.args.name.now))

pub returns-in-None : goal.returns-in-None
returns-in-None g c =
    sym
    (ap is_some (none_at own_texts (full_key g.K.Named.texts_of g.R.NamedRow.name_of g.R.GroupedRow.group_of) g.R.SnapshotterRow.ns_of c.args.ns.now (c.args.snapshotter.now ∷ g.K.Named.texts_of c.args.name.now) c.args.groups.now.entries c.in-None.ensures.none c.requires))
