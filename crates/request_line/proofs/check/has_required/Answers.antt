use Rattle.std.proofs.Common.{◌∙◌}
use Rattle.request_line.specs.LineMembers.{object_of}
use Rattle.request_line.proofs.Checks.{has_required-borrowed}
use Rattle.request_line.proofs.check.has_required.Goals as goal

pub returns : goal.returns
returns c =
    c.has_all.ensures
    ∙ has_required-borrowed (object_of c.args.members.now) c.args.row.now.required.now
