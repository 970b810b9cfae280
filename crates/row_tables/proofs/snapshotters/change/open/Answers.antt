use Rattle.row_tables.specs.Namespaces.{full_key, own_texts, all_rows}
use Rattle.std.specs.Prelude.{◌∷◌}
use Rattle.std.proofs.Common.{◌≡◌, ◌++◌, [], List, ap, ◌∙◌, sym, subst}
use Rattle.meta_types.specs.Text.{Text}
use Rattle.row_tables.specs.Arrived.{sorted}
use Rattle.row_tables.specs.ArrivedNamespaces.{AreApart, AreFull}
use Rattle.row_tables.proofs.HousedNamespaces.{opened_apart, opened_sorted, opened_full}
use Rattle.row_tables.proofs.NamespaceHomes.{new_entry}
use Rattle.row_tables.proofs.NamespacesArrived.{key}
use Rattle.row_tables.proofs.snapshotters.change.open.Goals as goal

is : (g : _) (c : goal.Joined-insert-2 g)
    → c.insert.new.self.entries ≡ c.args.groups.now.entries ++ (g.R.SnapshotterRow.ns_of c.args.row, c.args.row ∷ []) ∷ []
is g c =
    new_entry c.args.groups.now.entries (g.R.SnapshotterRow.ns_of c.args.row)
    (c.args.row ∷ []) c.in_ok-ns.ns c.in_ok-rows.rows c.insert.new.self.entries c.requires.none
    (c.in_ok-ns.ensures.ok ∙ c.ns.ensures) c.in_ok-rows.ensures.ok c.in-Ok.ensures.entries

pub returns-in-Ok-clause-ok : goal.returns-in-Ok-clause-ok
returns-in-Ok-clause-ok g c =
    ap
    (λ (l : List (Text × List g.row.R.Denot)). sorted (key own_texts (full_key g.K.Named.texts_of g.R.NamedRow.name_of g.R.GroupedRow.group_of) g.R.SnapshotterRow.ns_of) (all_rows l))
    (is g c)
    ∙ opened_sorted own_texts
    (full_key g.K.Named.texts_of g.R.NamedRow.name_of g.R.GroupedRow.group_of)
    g.R.SnapshotterRow.ns_of c.args.row c.args.groups.now.entries c.requires.none c.requires.are

pub returns-in-Ok-clause-groups : goal.returns-in-Ok-clause-groups
returns-in-Ok-clause-groups g c =
    subst
    (AreApart (key own_texts (full_key g.K.Named.texts_of g.R.NamedRow.name_of g.R.GroupedRow.group_of) g.R.SnapshotterRow.ns_of) g.R.SnapshotterRow.ns_of)
    (sym (is g c))
    (opened_apart own_texts (full_key g.K.Named.texts_of g.R.NamedRow.name_of g.R.GroupedRow.group_of) g.R.SnapshotterRow.ns_of c.args.row c.args.groups.now.entries c.requires.none c.requires.are)

pub returns-in-Ok-clause-full : goal.returns-in-Ok-clause-full
returns-in-Ok-clause-full g c all =
    subst (AreFull {Row = g.row.R.Denot}) (sym (is g c)) (opened_full own_texts (full_key g.K.Named.texts_of g.R.NamedRow.name_of g.R.GroupedRow.group_of) g.R.SnapshotterRow.ns_of c.args.row c.args.groups.now.entries c.requires.none c.requires.are all)
