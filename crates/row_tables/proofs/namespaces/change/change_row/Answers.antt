use Rattle.std.proofs.Common.{◌≡◌, Some, false, ap, subst}
use Rattle.std.specs.Prelude.{is_some, slice_get, IfNone}
use Rattle.row_tables.proofs.HousedNamespaces.{found_at, changed_apart, changed_sorted, unchanged_at, changed_full, none_at}
use Rattle.row_tables.proofs.NamespaceHomes.{at_given}
use Rattle.row_tables.proofs.namespaces.change.change_row.Goals as goal

at : (g : _) (c : goal.After-groups-1 g)
    → slice_get c.args.groups.now.entries c.in-Some.home ≡ Some (c.args.ns.now, c.index_mut.result.now)
at g c =
    at_given c.args.groups.now.entries c.in-Some.home c.args.ns.now c.in-Some.ensures.found.0
    c.index_mut.result.now c.in-Some.ensures.found.1 c.index_mut.ensures.value

pub returns-in-Some-clause-absent : goal.returns-in-Some-clause-absent
returns-in-Some-clause-absent g c =
    subst (λ b. IfNone c.change.result (b ≡ false))
    (ap is_some (found_at g.K.Named.texts_of g.R.NamedRow.name_of g.R.GroupedRow.group_of c.args.ns.now c.in-Some.home c.index_mut.result.now c.args.groups.now.entries (at g c) c.requires.groups (g.K.Named.texts_of c.args.name.now)))
    c.change.ensures.absent

pub returns-in-Some-clause-same : goal.returns-in-Some-clause-same
returns-in-Some-clause-same g c =
    unchanged_at g.K.Named.texts_of g.R.NamedRow.name_of g.R.GroupedRow.group_of c.args.ns.now
    c.in-Some.home c.index_mut.result.now c.args.groups.now.entries
    (at g c) c.requires.groups c.change.new.self c.change.result c.change.ensures.same

pub returns-in-Some-clause-changed : goal.returns-in-Some-clause-changed
returns-in-Some-clause-changed g c =
    changed_sorted g.K.Named.texts_of g.R.NamedRow.name_of g.R.GroupedRow.group_of c.args.ns.now
    c.in-Some.home c.index_mut.result.now c.args.groups.now.entries
    (at g c) c.requires.groups c.change.new.self
    (g.K.Named.texts_of c.args.name.now) (g.C.Change.changes c.args.change) (g.met.C.Change.keeps_name c.args.change) c.requires.keeps_ns c.change.result c.change.ensures.changed c.change.ensures.same

pub returns-in-Some-clause-groups : goal.returns-in-Some-clause-groups
returns-in-Some-clause-groups g c =
    changed_apart g.K.Named.texts_of g.R.NamedRow.name_of g.R.GroupedRow.group_of c.args.ns.now
    c.in-Some.home c.index_mut.result.now c.args.groups.now.entries
    (at g c) c.requires.groups c.change.new.self
    (g.K.Named.texts_of c.args.name.now) (g.C.Change.changes c.args.change) (g.met.C.Change.keeps_name c.args.change) c.requires.keeps_ns c.change.result c.change.ensures.changed c.change.ensures.same

pub returns-in-Some-clause-full : goal.returns-in-Some-clause-full
returns-in-Some-clause-full g c all =
    changed_full g.K.Named.texts_of g.R.NamedRow.name_of g.R.GroupedRow.group_of c.args.ns.now
    c.in-Some.home c.index_mut.result.now c.args.groups.now.entries
    (at g c) c.requires.groups c.change.new.self c.change.ensures.len all

-- no row is in a namespace that isn't there
pub returns-in-None-clause-absent : goal.returns-in-None-clause-absent
returns-in-None-clause-absent g c =
    ap is_some
    (none_at g.K.Named.texts_of g.R.NamedRow.name_of g.R.GroupedRow.group_of c.args.ns.now (g.K.Named.texts_of c.args.name.now) c.args.groups.now.entries c.in-None.ensures.none c.requires.groups)
