use Rattle.std.proofs.Common.{rules, Some, None, ◌≡◌, ◌∷◌, [], sym, ap, ◌∙◌}
use Rattle.std.specs.Prelude.{is_some}
use Rattle.meta_types.specs.Keys.{remove_row}
use Rattle.meta_types.specs.Rows.{snap_key}
use Rattle.object_tables.specs.Children.{left_by, family_names}
use Rattle.object_tables.proofs.OrderStays.{nothing_to_remove}
use Rattle.object_tables.proofs.NamesAfter.{row_left, none_parted}
use Rattle.object_tables.proofs.children.Snapshots.remove.Goals as goal
use Rattle.object_tables.proofs.children.Snapshots.remove.Goals.{in-Some-parent, in_default-parent}

-- what isn't there doesn't go
pub invariant_of-self : goal.invariant_of-self
invariant_of-self c = none_parted c.self.inside.rows (family_names c.self.inside.families) c.self.invariant (c.args.key.now.ns ∷ c.args.key.now.snapshotter ∷ c.args.key.now.name ∷ []) c.take.new.self
    (ap is_some (sym c.in_default.ensures.row)) c.take.ensures.left

pub returns-in_default-clause-same : goal.returns-in_default-clause-same
returns-in_default-clause-same c = c.take.ensures.left
    ∙ sym (nothing_to_remove snap_key (c.args.key.now.ns ∷ c.args.key.now.snapshotter ∷ c.args.key.now.name ∷ []) c.self.inside.rows
    (ap is_some (sym c.in_default.ensures.row))) ∙ c.self.view_is

-- a child goes from under its parent
pub invariant_of-self-in-Some-parent : goal.invariant_of-self-in-Some-parent
invariant_of-self-in-Some-parent c =
    let has : c.in-Some.row.parent ≡ Some c.in-Some-parent.parent = search rules in
    row_left c.self.inside.rows (family_names c.self.inside.families) c.self.invariant (c.args.key.now.ns ∷ c.args.key.now.snapshotter ∷ c.args.key.now.name ∷ []) c.in-Some.row
    (family_names c.leave.new.self) c.take.new.self (sym c.in-Some.ensures.row)
    (c.leave.ensures.names ∙ ap (λ o. left_by c.in-Some.row.key o (family_names c.self.inside.families)) (sym has)) c.take.ensures.left

-- and one without a parent is no child
pub invariant_of-self-in_default-parent : goal.invariant_of-self-in_default-parent
invariant_of-self-in_default-parent c =
    let has : c.in-Some.row.parent ≡ None = search rules in
    row_left c.self.inside.rows (family_names c.self.inside.families) c.self.invariant (c.args.key.now.ns ∷ c.args.key.now.snapshotter ∷ c.args.key.now.name ∷ []) c.in-Some.row
    (family_names c.self.inside.families) c.take.new.self (sym c.in-Some.ensures.row)
    (ap (λ o. left_by c.in-Some.row.key o (family_names c.self.inside.families)) (sym has)) c.take.ensures.left

-- of the rows only this one goes, with a parent or without
pub returns-clause-left : goal.returns-clause-left
returns-clause-left c =
    let gone = c.take.ensures.left ∙ ap (remove_row snap_key (c.args.key.now.ns
    ∷ c.args.key.now.snapshotter ∷ c.args.key.now.name ∷ [])) c.self.view_is in
    elim c.match-row.branch [
      | in-Some-parent w ↦ w.self-is ∙ gone
      | in_default-parent w ↦ w.self-is ∙ gone
    ]
