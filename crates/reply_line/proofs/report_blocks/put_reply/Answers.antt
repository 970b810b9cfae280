use Rattle.std.proofs.Common.{◌++◌, codes, subst}
use Rattle.std.proofs.lemmas.Result.{on_ok_weaker, on_err_weaker}
use Rattle.serde_json.specs.Written.{compact_text}
use Rattle.gc_report.specs.Reports.{report_data}
use Rattle.reply_line.specs.Blocks.{Puts}
use Rattle.reply_line.proofs.Putting.{fails_first, fails_then, puts_then, holds_on_err, fails_as}
use Rattle.reply_line.proofs.ReportTexts.{reply_whole}
use Rattle.reply_line.proofs.report_blocks.put_reply.Goals as goal

pub returns-in_err-put_text-clause-err : goal.returns-in_err-put_text-clause-err
returns-in_err-put_text-clause-err g c = holds_on_err c.from_residual.result (fails_as
    (g.W.Write.contents c.args.writer.now) (g.W.Write.contents c.put_text.new.writer)
    (c.args.block.now.items) _ _ (reply_whole c.args.report.now) (fails_first (g.W.Write.contents
    c.args.writer.now) (g.W.Write.contents c.put_text.new.writer) (c.args.block.now.items) (codes
    "{\"ok\":true,\"report\":") ((compact_text (report_data c.args.report.now)) ++ (codes "}\n"))
    c.in_err-put_text.ensures.err))

pub returns-in_err-put_report-clause-err : goal.returns-in_err-put_report-clause-err
returns-in_err-put_report-clause-err g c = holds_on_err c.from_residual-in_err-put_report.result
    (fails_as (g.W.Write.contents c.args.writer.now) (g.W.Write.contents c.put_report.new.writer)
    (c.args.block.now.items) _ _ (reply_whole c.args.report.now) (fails_then (g.W.Write.contents
    c.args.writer.now) (g.W.Write.contents c.put_text.new.writer) (g.W.Write.contents
    c.put_report.new.writer) (c.args.block.now.items) (c.put_text.new.block.items) (codes
    "{\"ok\":true,\"report\":") ((compact_text (report_data c.args.report.now)) ++ (codes "}\n"))
    c.in_ok-put_text.ensures.ok (fails_first (g.W.Write.contents c.put_text.new.writer)
    (g.W.Write.contents c.put_report.new.writer) (c.put_text.new.block.items) (compact_text
    (report_data c.args.report.now)) (codes "}\n") c.in_err-put_report.ensures.err)))

pub returns-clause-err : goal.returns-clause-err
returns-clause-err g c = on_err_weaker c.put_text-2.result (λ w. fails_as (g.W.Write.contents
    c.args.writer.now) (g.W.Write.contents c.put_text-2.new.writer) (c.args.block.now.items) _ _
    (reply_whole c.args.report.now) (fails_then (g.W.Write.contents c.args.writer.now)
    (g.W.Write.contents c.put_text.new.writer) (g.W.Write.contents c.put_text-2.new.writer)
    (c.args.block.now.items) (c.put_text.new.block.items) (codes "{\"ok\":true,\"report\":")
    ((compact_text (report_data c.args.report.now)) ++ (codes "}\n")) c.in_ok-put_text.ensures.ok
    (fails_then (g.W.Write.contents c.put_text.new.writer) (g.W.Write.contents
    c.put_report.new.writer) (g.W.Write.contents c.put_text-2.new.writer)
    (c.put_text.new.block.items) (c.put_report.new.block.items) (compact_text (report_data
    c.args.report.now)) (codes "}\n") c.in_ok-put_report.ensures.ok (w)))) c.put_text-2.ensures.err

pub returns-clause-ok : goal.returns-clause-ok
returns-clause-ok g c = on_ok_weaker c.put_text-2.result (λ w. subst (Puts (g.W.Write.contents
    c.args.writer.now) (c.args.block.now.items) (g.W.Write.contents c.put_text-2.new.writer)
    (c.put_text-2.new.block.items)) (reply_whole c.args.report.now) (puts_then (g.W.Write.contents
    c.args.writer.now) (g.W.Write.contents c.put_text.new.writer) (g.W.Write.contents
    c.put_text-2.new.writer) (c.args.block.now.items) (c.put_text.new.block.items)
    (c.put_text-2.new.block.items) (codes "{\"ok\":true,\"report\":") ((compact_text (report_data
    c.args.report.now)) ++ (codes "}\n")) c.in_ok-put_text.ensures.ok (puts_then (g.W.Write.contents
    c.put_text.new.writer) (g.W.Write.contents c.put_report.new.writer) (g.W.Write.contents
    c.put_text-2.new.writer) (c.put_text.new.block.items) (c.put_report.new.block.items)
    (c.put_text-2.new.block.items) (compact_text (report_data c.args.report.now)) (codes "}\n")
    c.in_ok-put_report.ensures.ok (w)))) c.put_text-2.ensures.ok
