use Rattle.std.proofs.Common.{◌≡◌, map, List, ap, ◌∙◌, subst}
use Rattle.std.specs.Prelude.{IfOk}
use Rattle.meta_types.specs.declared.rows.SnapKey.{SnapKey}
use Rattle.meta_types.specs.declared.rows.SnapRow.{SnapRow}
use Rattle.object_tables.specs.Calls.{children_of}
use Rattle.object_tables.specs.Children.{NamesByParent, child_named}
use Rattle.object_tables.proofs.NamesUnder.{named_children}
use Rattle.object_tables.proofs.children.Snapshots.children.Goals as goal

-- the keys of the names under it
pub returns-clause-ok : goal.returns-clause-ok
returns-clause-ok c =
    let key = c.args.key.now in
    subst (λ (those : List SnapKey). IfOk c.keys_of.result (λ keys. keys.items ≡ those))
    (ap (map (child_named key.ns key.snapshotter)) (ap (map (λ name. name.now)) c.deref.ensures.value ∙ c.in_ok-names.ensures.ok
    ∙ ap (λ (names : NamesByParent). names key.ns key.snapshotter key.name) c.self.invariant)
    ∙ named_children key.ns key.snapshotter key.name c.self.inside.rows
    ∙ ap (λ (rows : List SnapRow). children_of key.ns key.snapshotter key.name rows) c.self.view_is)
    c.keys_of.ensures.ok
