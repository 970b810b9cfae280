use Rattle.reply_line.proofs.Putting.{WritesFront-range}
use Rattle.reply_line.proofs.writing.write_bytes.Goals as goal

pub loop-rest-preserved : goal.loop-rest-preserved
loop-rest-preserved g c =
    WritesFront-range (g.W.Write.contents c.args.writer.now) (g.W.Write.contents c.loop-rest.writer)
    (g.W.Write.contents c.write.new.self)
    c.loop-rest.rest.now c.args.bytes.now c.in-Ok.count c.loop-rest.invariant c.in-Ok.ensures.bytes
