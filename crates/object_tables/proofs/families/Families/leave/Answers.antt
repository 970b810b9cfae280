use Rattle.std.proofs.Common.{sym, ap, ◌∙◌}
use Rattle.meta_types.specs.Keys.{are_in_order}
use Rattle.object_tables.specs.Children.{family_key, family_names, families_left}
use Rattle.object_tables.proofs.FamiliesLeft.{named_left, last_left, some_left, nobody_left}
use Rattle.object_tables.proofs.families.Families.leave.Goals as goal

-- the family goes with its last child
pub returns-in-Some-true-clause-rows : goal.returns-in-Some-true-clause-rows
returns-in-Some-true-clause-rows c =
    let done = c.in-Some-true.ensures.changed in
    c.remove.ensures.left
    ∙ last_left c.args.key.now c.args.parent.now c.self.inside.rows done.0 done.1 c.change.new.self done.3 done.2.left (sym done.2.empty ∙ c.in-Some-true.field-0-test)
    ∙ ap (families_left c.args.key.now c.args.parent.now) c.self.view_is

pub returns-in-Some-true-clause-names : goal.returns-in-Some-true-clause-names
returns-in-Some-true-clause-names c = ap family_names (returns-in-Some-true-clause-rows c) ∙ named_left c.args.key.now c.args.parent.now c.args.self.now (ap (are_in_order family_key) (sym c.self.view_is) ∙ c.len.ensures.order)

-- or others are left
pub returns-in-Some-false-clause-rows : goal.returns-in-Some-false-clause-rows
returns-in-Some-false-clause-rows c =
    let done = c.in-Some-false.ensures.changed in
    some_left c.args.key.now c.args.parent.now c.self.inside.rows done.0 done.1 c.change.new.self done.3 done.2.left (sym done.2.empty ∙ c.in-Some-false.field-0-test)
    ∙ ap (families_left c.args.key.now c.args.parent.now) c.self.view_is

pub returns-in-Some-false-clause-names : goal.returns-in-Some-false-clause-names
returns-in-Some-false-clause-names c = ap family_names (returns-in-Some-false-clause-rows c) ∙ named_left c.args.key.now c.args.parent.now c.args.self.now (ap (are_in_order family_key) (sym c.self.view_is) ∙ c.len.ensures.order)

-- or there was none
pub returns-in-None-clause-rows : goal.returns-in-None-clause-rows
returns-in-None-clause-rows c = c.in-None.ensures.same ∙ nobody_left c.args.key.now c.args.parent.now c.self.inside.rows c.in-None.ensures.absent
    ∙ ap (families_left c.args.key.now c.args.parent.now) c.self.view_is

pub returns-in-None-clause-names : goal.returns-in-None-clause-names
returns-in-None-clause-names c = ap family_names (returns-in-None-clause-rows c) ∙ named_left c.args.key.now c.args.parent.now c.args.self.now (ap (are_in_order family_key) (sym c.self.view_is) ∙ c.len.ensures.order)
