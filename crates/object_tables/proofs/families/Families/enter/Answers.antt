use Rattle.std.proofs.Common.{List, ap, ◌∙◌}
use Rattle.object_tables.specs.Children.{entered, family_names}
use Rattle.object_tables.specs.declared.families.Family.{Family}
use Rattle.object_tables.proofs.FamilyRows.{arrived, arrived_not, refused, first_arrived}
use Rattle.object_tables.proofs.families.Families.enter.Goals as goal

-- the child arrived to the family that is there
pub returns-in-Some-Ok-clause-ok : goal.returns-in-Some-Ok-clause-ok
returns-in-Some-Ok-clause-ok c =
    let done = c.in-Some-Ok.ensures.changed in
    arrived c.args.key.now c.args.parent.now c.self.inside.rows done.0 done.1 c.change.new.self done.3 c.in_ok-name.name c.in-Some-Ok.field-0 c.in_ok-name.ensures.ok done.2 _ c.in-Some-Ok.field-0-is
    ∙ ap (λ (families : List Family). entered c.args.key.now c.args.parent.now (family_names families)) c.self.view_is

-- or memory was refused
pub returns-in-Some-Err-clause-fault : goal.returns-in-Some-Err-clause-fault
returns-in-Some-Err-clause-fault c =
    let done = c.in-Some-Err.ensures.changed in
    rw c.in-Some-Err.field-0-is (refused c.args.key.now c.args.parent.now c.self.inside.rows done.0 done.1 c.change.new.self done.3 c.in_ok-name.name c.in-Some-Err.field-0 c.in_ok-name.ensures.ok done.2 c.in-Some-Err.fault c.in-Some-Err.field-0-is (rw c.self.view_is c.requires))

pub returns-in-Some-Err-clause-err : goal.returns-in-Some-Err-clause-err
returns-in-Some-Err-clause-err c =
    let done = c.in-Some-Err.ensures.changed in
    arrived_not c.args.key.now c.args.parent.now c.self.inside.rows done.0 done.1 c.change.new.self done.3 c.in_ok-name.name c.in-Some-Err.field-0 done.2 c.in-Some-Err.fault c.in-Some-Err.field-0-is
    ∙ c.self.view_is

-- or makes a family
pub returns-in_ok-family-in-None-clause-ok : goal.returns-in_ok-family-in-None-clause-ok
returns-in_ok-family-in-None-clause-ok c =
    rw (← c.self.view_is) (first_arrived c.args.key.now c.args.parent.now c.self.inside.rows c.in_ok-family-in-None.family c.change.new.self c.add.new.self c.add.result c.in_ok-family-in-None.ensures.ok c.in-None.ensures.absent c.in-None.ensures.same c.add.ensures.ok)
