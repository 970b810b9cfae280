use Rattle.std.proofs.Common.{rules, Some, ◌≡◌, sym, ap, ◌∙◌}
use Rattle.meta_types.specs.Keys.{add_row}
use Rattle.meta_types.specs.Rows.{snap_key}
use Rattle.object_tables.specs.Children.{family_names}
use Rattle.object_tables.proofs.NamesAfter.{plain_added, child_free, child_added, entry_undone}
use Rattle.object_tables.proofs.children.Snapshots.add.Goals as goal

-- one without a parent is no child
pub invariant_of-self : goal.invariant_of-self
invariant_of-self c = plain_added c.self.inside.rows (family_names c.self.inside.families) c.self.invariant c.args.row c.add.new.self c.add.result (search rules) c.add.ensures.ok c.add.ensures.err

pub enter-requires : goal.enter-requires
enter-requires c = child_free c.self.inside.rows (family_names c.self.inside.families) c.self.invariant c.args.row c.in_ok-key.key c.in_ok-parent.parent c.in_ok-key.ensures.ok (rw c.self.view_is c.requires)

pub add-requires-2 : goal.add-requires-2
add-requires-2 c = rw c.self.view_is c.requires

-- a child goes under its parent
pub invariant_of-self-in-Ok : goal.invariant_of-self-in-Ok
invariant_of-self-in-Ok c =
    let has : c.args.row.parent ≡ Some c.in-Some.parent = search rules in
    child_added c.self.inside.rows (family_names c.self.inside.families) c.self.invariant c.args.row c.in_ok-key.key c.in_ok-parent.parent c.in_ok-key.ensures.ok (has ∙ ap Some (sym c.in_ok-parent.ensures.ok)) c.len.ensures.order
    (family_names c.enter.new.self) c.add-2.new.self c.in_ok-enter.ensures.ok c.in-Ok.ensures.ok

pub returns-in-Ok-clause-ok : goal.returns-in-Ok-clause-ok
returns-in-Ok-clause-ok c = c.in-Ok.ensures.ok ∙ ap (add_row snap_key c.args.row) c.self.view_is

-- where memory is refused its name is taken out again
pub invariant_of-self-in-Err : goal.invariant_of-self-in-Err
invariant_of-self-in-Err c =
    entry_undone c.self.inside.rows (family_names c.self.inside.families) c.self.invariant c.args.row c.in_ok-key.key c.in_ok-parent.parent c.in_ok-key.ensures.ok (rw c.self.view_is c.requires)
    (family_names c.enter.new.self) (family_names c.leave.new.self) c.add-2.new.self c.in_ok-enter.ensures.ok c.leave.ensures.names c.in-Err.ensures.err
