use Rattle.std.proofs.Common.{◌∙◌, ap, length}
use Rattle.journal.proofs.Rooms.{filled}
use Rattle.journal.proofs.journal_file.steps.make_room.Goals as goal

pub returns : goal.returns
returns c = ap length (rw c.in_ok-resize.was at c.resize.ensures.items)
    ∙ filled c.args.count _ _ c.clear.ensures.items c.clear.ensures.len
