use Rattle.std.proofs.Common.{◌≡◌, ◌∙◌, ap, sym, Some, true, false, ◌&&◌, rules}
use Rattle.std.specs.List.{list_all}
use Rattle.request_line.specs.Table.{members_of}
use Rattle.request_line.specs.Lines.{has_required}
use Rattle.request_line.specs.LineMembers.{object_of, fits}
use Rattle.request_line.proofs.LineMembers.{command_by_all-no_op, command_by_all-misfit, command_by_all-op}
use Rattle.request_line.proofs.line.ask.Goals as goal

-- no op is named
pub returns-in_default-clause-ok : goal.returns-in_default-clause-ok
returns-in_default-clause-ok c =
    sym (command_by_all-no_op c.args.members.now (sym c.op_in.ensures ∙ c.in_default.is))

-- the members aren't those of the op
pub returns-then-not-are_of-clause-ok : goal.returns-then-not-are_of-clause-ok
returns-then-not-are_of-clause-ok c =
    let ms = c.args.members.now in
    let op = c.in-Some.op in
    let misfit : (list_all (fits (members_of op)) ms && has_required (members_of op) (object_of ms))
    ≡ false =
    search rules in
    sym (command_by_all-misfit ms op (sym c.op_in.ensures ∙ c.in-Some.is) misfit)

-- the members are those of the op
pub returns-clause-ok : goal.returns-clause-ok
returns-clause-ok c =
    let ms = c.args.members.now in
    let op = c.in-Some.op in
    let fit : (list_all (fits (members_of op)) ms && has_required (members_of op) (object_of ms))
    ≡ true =
    search rules in
    ap Some c.in_ok-command.ensures.ok
    ∙ sym (command_by_all-op ms op (sym c.op_in.ensures ∙ c.in-Some.is) fit)
