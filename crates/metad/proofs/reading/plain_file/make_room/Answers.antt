use Rattle.std.proofs.Common.{◌∙◌, ap, length}
use Rattle.metad.proofs.Rooms.{filled}
use Rattle.metad.proofs.reading.plain_file.make_room.Goals as goal

-- what is cleared and made longer by zeros has as many bytes
pub returns : goal.returns
returns c = ap length (rw c.in_ok-resize.was at c.resize.ensures.items)
    ∙ filled c.args.count _ _ c.clear.ensures.items c.clear.ensures.len
