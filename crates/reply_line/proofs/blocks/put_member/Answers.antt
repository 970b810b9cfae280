use Rattle.std.proofs.Common.{◌++◌, ap, subst}
use Rattle.std.proofs.lemmas.Result.{on_ok_weaker, on_err_weaker}
use Rattle.serde_json.specs.Written.{compact_text}
use Rattle.gc_report.specs.Reports.{list_data}
use Rattle.reply_line.specs.Blocks.{Puts}
use Rattle.reply_line.proofs.Putting.{fails_first, fails_then, puts_then, holds_on_err, fails_as}
use Rattle.reply_line.proofs.blocks.put_member.Goals as goal

pub returns-in_err-put_text-clause-err : goal.returns-in_err-put_text-clause-err
returns-in_err-put_text-clause-err g c = holds_on_err c.from_residual.result (fails_first
    (g.W.Write.contents c.args.writer.now) (g.W.Write.contents c.put_text.new.writer)
    (c.args.block.now.items) c.args.before.now (compact_text (list_data g.T.PutJson.as_data
    c.args.list.now.items)) c.in_err-put_text.ensures.err)

pub returns-clause-err : goal.returns-clause-err
returns-clause-err g c = on_err_weaker c.put_list.result (λ w. fails_as (g.W.Write.contents
    c.args.writer.now) (g.W.Write.contents c.put_list.new.writer) (c.args.block.now.items) _ _ (ap
    (λ l. c.args.before.now ++ compact_text (list_data g.T.PutJson.as_data l))
    c.deref.ensures.value) (fails_then (g.W.Write.contents c.args.writer.now) (g.W.Write.contents
    c.put_text.new.writer) (g.W.Write.contents c.put_list.new.writer) (c.args.block.now.items)
    (c.put_text.new.block.items) c.args.before.now (compact_text (list_data g.T.PutJson.as_data
    c.deref.result.now)) c.in_ok-put_text.ensures.ok (w))) c.put_list.ensures.err

pub returns-clause-ok : goal.returns-clause-ok
returns-clause-ok g c = on_ok_weaker c.put_list.result (λ w. subst (Puts (g.W.Write.contents
    c.args.writer.now) (c.args.block.now.items) (g.W.Write.contents c.put_list.new.writer)
    (c.put_list.new.block.items)) (ap (λ l. c.args.before.now ++ compact_text (list_data
    g.T.PutJson.as_data l)) c.deref.ensures.value) (puts_then (g.W.Write.contents
    c.args.writer.now) (g.W.Write.contents c.put_text.new.writer) (g.W.Write.contents
    c.put_list.new.writer) (c.args.block.now.items) (c.put_text.new.block.items)
    (c.put_list.new.block.items) c.args.before.now (compact_text (list_data g.T.PutJson.as_data
    c.deref.result.now)) c.in_ok-put_text.ensures.ok (w))) c.put_list.ensures.ok
