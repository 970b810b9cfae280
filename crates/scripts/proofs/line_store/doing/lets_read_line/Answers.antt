use Rattle.std.proofs.Common.{◌∙◌, sym}
use Rattle.scripts.proofs.Letting.{lets_unread, lets_some}
use Rattle.scripts.proofs.line_store.doing.lets_read_line.Goals as goal

pub returns-in-Ok : goal.returns-in-Ok
returns-in-Ok c is =
    lets_some c.args.mode c.args.line.now c.in-Ok.command c.in-Ok.ensures.ok
    (sym c.lets-is_let.ensures ∙ is)

pub returns-in-Err-BadLine : goal.returns-in-Err-BadLine
returns-in-Err-BadLine c is =
    lets_unread c.args.mode c.args.line.now c.in-Err-BadLine.field-0 c.in-Err-BadLine.field-0-is
    c.in-Err-BadLine.ensures.fault
