use Rattle.std.proofs.Common.{List, length, not, sym, ap, ◌∙◌}
use Rattle.std.specs.Prelude.{◌==◌}
use Rattle.std.specs.List.{list_any}
use Rattle.meta_types.specs.Ops.Snapshots.{is_child_of}
use Rattle.meta_types.specs.declared.rows.SnapRow.{SnapRow}
use Rattle.object_tables.specs.Children.{NamesByParent}
use Rattle.object_tables.proofs.NamesUnder.{some_named}
use Rattle.object_tables.proofs.children.Snapshots.is_parent.Goals as goal

-- it has a child where a name stands under it
pub returns : goal.returns
returns c =
    let key = c.args.key.now in
    c.has_any.ensures
    ∙ ap (λ (names : NamesByParent). not (length (names key.ns key.snapshotter key.name) == 0)) c.self.invariant
    ∙ sym (some_named key.ns key.snapshotter key.name c.self.inside.rows)
    ∙ ap (λ (rows : List SnapRow). list_any (is_child_of key.ns key.snapshotter key.name) rows) c.self.view_is
