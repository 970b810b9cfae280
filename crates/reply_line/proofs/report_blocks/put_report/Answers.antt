use Rattle.std.proofs.Common.{subst}
use Rattle.std.proofs.lemmas.Result.{on_ok_weaker, on_err_weaker}
use Rattle.reply_line.specs.Blocks.{Puts}
use Rattle.reply_line.specs.ReportTexts.{front_text, end_text}
use Rattle.reply_line.proofs.Putting.{fails_first, fails_then, puts_then, holds_on_err, fails_as}
use Rattle.reply_line.proofs.ReportTexts.{report_whole}
use Rattle.reply_line.proofs.report_blocks.put_report.Goals as goal

pub returns-in_err-put_front-clause-err : goal.returns-in_err-put_front-clause-err
returns-in_err-put_front-clause-err g c = holds_on_err c.from_residual.result (fails_as
    (g.W.Write.contents c.args.writer.now) (g.W.Write.contents c.put_front.new.writer)
    (c.args.block.now.items) _ _ (report_whole c.args.report.now) (fails_first (g.W.Write.contents
    c.args.writer.now) (g.W.Write.contents c.put_front.new.writer) (c.args.block.now.items)
    (front_text c.args.report.now) (end_text c.args.report.now) c.in_err-put_front.ensures.err))

pub returns-clause-err : goal.returns-clause-err
returns-clause-err g c = on_err_weaker c.put_end.result (λ w. fails_as (g.W.Write.contents
    c.args.writer.now) (g.W.Write.contents c.put_end.new.writer) (c.args.block.now.items) _ _
    (report_whole c.args.report.now) (fails_then (g.W.Write.contents c.args.writer.now)
    (g.W.Write.contents c.put_front.new.writer) (g.W.Write.contents c.put_end.new.writer)
    (c.args.block.now.items) (c.put_front.new.block.items) (front_text c.args.report.now) (end_text
    c.args.report.now) c.in_ok-put_front.ensures.ok (w))) c.put_end.ensures.err

pub returns-clause-ok : goal.returns-clause-ok
returns-clause-ok g c = on_ok_weaker c.put_end.result (λ w. subst (Puts (g.W.Write.contents
    c.args.writer.now) (c.args.block.now.items) (g.W.Write.contents c.put_end.new.writer)
    (c.put_end.new.block.items)) (report_whole c.args.report.now) (puts_then (g.W.Write.contents
    c.args.writer.now) (g.W.Write.contents c.put_front.new.writer) (g.W.Write.contents
    c.put_end.new.writer) (c.args.block.now.items) (c.put_front.new.block.items)
    (c.put_end.new.block.items) (front_text c.args.report.now) (end_text c.args.report.now)
    c.in_ok-put_front.ensures.ok (w))) c.put_end.ensures.ok
