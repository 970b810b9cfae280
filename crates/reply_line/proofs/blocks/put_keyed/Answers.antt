use Rattle.std.proofs.lemmas.Result.{on_ok_weaker, on_err_weaker}
use Rattle.serde_json.specs.Written.{compact_text}
use Rattle.reply_line.proofs.Putting.{fails_first, fails_then, puts_then, holds_on_err}
use Rattle.reply_line.proofs.blocks.put_keyed.Goals as goal

pub returns-in_err-put_text-clause-err : goal.returns-in_err-put_text-clause-err
returns-in_err-put_text-clause-err g c = holds_on_err c.from_residual.result (fails_first
    (g.W.Write.contents c.args.writer.now) (g.W.Write.contents c.put_text.new.writer)
    (c.args.block.now.items) c.args.before.now (compact_text (g.T.WriteJson.as_data
    c.args.value.now)) c.in_err-put_text.ensures.err)

pub returns-clause-err : goal.returns-clause-err
returns-clause-err g c = on_err_weaker c.put_value.result (λ w. fails_then (g.W.Write.contents
    c.args.writer.now) (g.W.Write.contents c.put_text.new.writer) (g.W.Write.contents
    c.put_value.new.writer) (c.args.block.now.items) (c.put_text.new.block.items) c.args.before.now
    (compact_text (g.T.WriteJson.as_data c.args.value.now)) c.in_ok-put_text.ensures.ok (w))
    c.put_value.ensures.err

pub returns-clause-ok : goal.returns-clause-ok
returns-clause-ok g c = on_ok_weaker c.put_value.result (λ w. puts_then (g.W.Write.contents
    c.args.writer.now) (g.W.Write.contents c.put_text.new.writer) (g.W.Write.contents
    c.put_value.new.writer) (c.args.block.now.items) (c.put_text.new.block.items)
    (c.put_value.new.block.items) c.args.before.now (compact_text (g.T.WriteJson.as_data
    c.args.value.now)) c.in_ok-put_text.ensures.ok (w)) c.put_value.ensures.ok
