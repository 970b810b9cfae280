use Rattle.std.proofs.Common.{◌≡◌, ◌∷◌, Some, ap, ◌∙◌, sym, arith}
use Rattle.std.specs.Prelude.{is_some, slice_get, if◌then◌else◌}
use Rattle.std.specs.List.{swap_remove}
use Rattle.indexmap.specs.IndexMap.{set_value_at}
use Rattle.indexmap.specs.Layout.{length-set_value_at}
use Rattle.row_tables.specs.ArrivedNamespaces.{AreApart}
use Rattle.meta_types.proofs.Puts.{remove_absent}
use Rattle.row_tables.specs.Arrived.{sorted}
use Rattle.row_tables.specs.ArrivedNamespaces.{has_rows}
use Rattle.row_tables.specs.Namespaces.{all_rows}
use Rattle.row_tables.proofs.HousedNamespaces.{found_at, taken_apart, taken_sorted, closed_apart, closed_sorted, closed_full, none_at, set_there}
use Rattle.row_tables.proofs.NamespaceHomes.{at_given}
use Rattle.row_tables.proofs.NamespacesArrived.{key}
use Rattle.row_tables.proofs.namespaces.change.take_row.Goals as goal

at : (g : _) (c : goal.After-close g)
    → slice_get c.args.groups.now.entries c.in-Some.home ≡ Some (c.args.ns.now, c.index_mut.result.now)
at g c =
    at_given c.args.groups.now.entries c.in-Some.home c.args.ns.now c.in-Some.ensures.found.0
    c.index_mut.result.now c.in-Some.ensures.found.1 c.index_mut.ensures.value

pub returns-in-Some-clause-row : goal.returns-in-Some-clause-row
returns-in-Some-clause-row g c =
    c.take-row.ensures.row ∙ found_at g.K.Named.texts_of g.R.NamedRow.name_of g.R.GroupedRow.group_of c.args.ns.now c.in-Some.home c.index_mut.result.now c.args.groups.now.entries (at g c) c.requires (g.K.Named.texts_of c.args.name.now)

-- no row is in a namespace that isn't there
pub returns-in-None-clause-row : goal.returns-in-None-clause-row
returns-in-None-clause-row g c =
    sym
    (none_at g.K.Named.texts_of g.R.NamedRow.name_of g.R.GroupedRow.group_of c.args.ns.now (g.K.Named.texts_of c.args.name.now) c.args.groups.now.entries c.in-None.ensures.none c.requires)

pub returns-in-None-clause-left : goal.returns-in-None-clause-left
returns-in-None-clause-left g c =
    sym
    (remove_absent (key g.K.Named.texts_of g.R.NamedRow.name_of g.R.GroupedRow.group_of) (c.args.ns.now ∷ g.K.Named.texts_of c.args.name.now) (sorted (key g.K.Named.texts_of g.R.NamedRow.name_of g.R.GroupedRow.group_of) (all_rows c.args.groups.now.entries)) (ap is_some (sym (returns-in-None-clause-row g c))))

pub close-requires : goal.close-requires
close-requires g c =
    omega
    (arith, c.in-Some.ensures.within, length-set_value_at c.args.groups.now.entries c.in-Some.home c.take-row.new.self)

there : (g : _) (c : goal.After-close g)
    → slice_get (set_value_at c.args.groups.now.entries c.in-Some.home c.take-row.new.self) c.in-Some.home ≡ Some (c.args.ns.now, c.take-row.new.self)
there g c =
    set_there c.args.groups.now.entries c.in-Some.home c.args.ns.now c.index_mut.result.now
    c.take-row.new.self
    (at g c)

is : (g : _) (c : goal.After-close g)
    → c.close.new.groups.entries ≡ (if has_rows (c.args.ns.now, c.take-row.new.self) then set_value_at c.args.groups.now.entries c.in-Some.home c.take-row.new.self else swap_remove (set_value_at c.args.groups.now.entries c.in-Some.home c.take-row.new.self) c.in-Some.home (c.args.ns.now, c.take-row.new.self))
is g c = c.close.ensures (c.args.ns.now, c.take-row.new.self) (there g c)

taken : (g : _) (c : goal.After-close g)
    → AreApart (key g.K.Named.texts_of g.R.NamedRow.name_of g.R.GroupedRow.group_of) g.R.GroupedRow.group_of (set_value_at c.args.groups.now.entries c.in-Some.home c.take-row.new.self)
taken g c =
    taken_apart g.K.Named.texts_of g.R.NamedRow.name_of g.R.GroupedRow.group_of c.args.ns.now
    c.in-Some.home c.index_mut.result.now c.args.groups.now.entries
    (at g c) c.requires c.take-row.new.self
    (g.K.Named.texts_of c.args.name.now) c.take-row.ensures.left

pub returns-in-Some-clause-left : goal.returns-in-Some-clause-left
returns-in-Some-clause-left g c =
    closed_sorted g.K.Named.texts_of g.R.NamedRow.name_of g.R.GroupedRow.group_of
    (set_value_at c.args.groups.now.entries c.in-Some.home c.take-row.new.self) c.close.new.groups.entries c.in-Some.home
    (c.args.ns.now, c.take-row.new.self) (there g c) (taken g c) (is g c)
    ∙ taken_sorted g.K.Named.texts_of g.R.NamedRow.name_of g.R.GroupedRow.group_of c.args.ns.now
    c.in-Some.home c.index_mut.result.now c.args.groups.now.entries (at g c) c.requires
    c.take-row.new.self (g.K.Named.texts_of c.args.name.now) c.take-row.ensures.left

pub returns-in-Some-clause-groups : goal.returns-in-Some-clause-groups
returns-in-Some-clause-groups g c =
    closed_apart g.K.Named.texts_of g.R.NamedRow.name_of g.R.GroupedRow.group_of
    (set_value_at c.args.groups.now.entries c.in-Some.home c.take-row.new.self) c.close.new.groups.entries c.in-Some.home
    (c.args.ns.now, c.take-row.new.self) (there g c) (taken g c) (is g c)

pub returns-in-Some-clause-full : goal.returns-in-Some-clause-full
returns-in-Some-clause-full g c all =
    closed_full g.K.Named.texts_of g.R.NamedRow.name_of g.R.GroupedRow.group_of c.args.ns.now
    c.in-Some.home c.index_mut.result.now c.args.groups.now.entries
    (at g c) c.requires c.take-row.new.self c.close.new.groups.entries (taken g c) (is g c) all
