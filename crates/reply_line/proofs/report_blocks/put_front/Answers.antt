use Rattle.std.proofs.Common.{◌++◌, codes, ap, subst}
use Rattle.std.proofs.lemmas.Result.{on_ok_weaker, on_err_weaker}
use Rattle.serde_json.specs.Data.{boolean}
use Rattle.serde_json.specs.Written.{compact_text}
use Rattle.gc_report.specs.Reports.{pair_data, list_data, objects_data}
use Rattle.reply_line.specs.Blocks.{Puts}
use Rattle.reply_line.specs.ReportTexts.{front_text}
use Rattle.reply_line.proofs.Putting.{fails_first, fails_then, puts_then, holds_on_err, fails_as}
use Rattle.reply_line.proofs.report_blocks.put_front.Goals as goal

pub returns-in_err-put_text-clause-err : goal.returns-in_err-put_text-clause-err
returns-in_err-put_text-clause-err g c = holds_on_err c.from_residual.result (fails_first
    (g.W.Write.contents c.args.writer.now) (g.W.Write.contents c.put_text.new.writer)
    (c.args.block.now.items) (codes "{\"backend\":") ((compact_text (objects_data
    c.args.report.now.backend)) ++ (((codes ",\"dry\":") ++ compact_text (boolean
    c.args.report.now.dry)) ++ ((codes ",\"failed\":") ++ ((compact_text (objects_data
    c.args.report.now.failed)) ++ ((codes ",\"ignored\":") ++ compact_text (list_data pair_data
    c.args.report.now.ignored)))))) c.in_err-put_text.ensures.err)

pub returns-in_err-put_objects-clause-err : goal.returns-in_err-put_objects-clause-err
returns-in_err-put_objects-clause-err g c = holds_on_err c.from_residual-in_err-put_objects.result
    (fails_as (g.W.Write.contents c.args.writer.now) (g.W.Write.contents c.put_objects.new.writer)
    (c.args.block.now.items) _ _ (ap front_text c.report.view_is) (fails_then (g.W.Write.contents
    c.args.writer.now) (g.W.Write.contents c.put_text.new.writer) (g.W.Write.contents
    c.put_objects.new.writer) (c.args.block.now.items) (c.put_text.new.block.items) (codes
    "{\"backend\":") ((compact_text (objects_data c.report.inside.backend)) ++ (((codes ",\"dry\":")
    ++ compact_text (boolean c.report.inside.dry)) ++ ((codes ",\"failed\":") ++ ((compact_text
    (objects_data c.report.inside.failed)) ++ ((codes ",\"ignored\":") ++ compact_text (list_data
    pair_data c.report.inside.ignored.items)))))) c.in_ok-put_text.ensures.ok (fails_first
    (g.W.Write.contents c.put_text.new.writer) (g.W.Write.contents c.put_objects.new.writer)
    (c.put_text.new.block.items) (compact_text (objects_data c.report.inside.backend)) (((codes
    ",\"dry\":") ++ compact_text (boolean c.report.inside.dry)) ++ ((codes ",\"failed\":") ++
    ((compact_text (objects_data c.report.inside.failed)) ++ ((codes ",\"ignored\":") ++
    compact_text (list_data pair_data c.report.inside.ignored.items)))))
    c.in_err-put_objects.ensures.err)))

pub returns-in_err-put_keyed-clause-err : goal.returns-in_err-put_keyed-clause-err
returns-in_err-put_keyed-clause-err g c = holds_on_err c.from_residual-in_err-put_keyed.result
    (fails_as (g.W.Write.contents c.args.writer.now) (g.W.Write.contents c.put_keyed.new.writer)
    (c.args.block.now.items) _ _ (ap front_text c.report.view_is) (fails_then (g.W.Write.contents
    c.args.writer.now) (g.W.Write.contents c.put_text.new.writer) (g.W.Write.contents
    c.put_keyed.new.writer) (c.args.block.now.items) (c.put_text.new.block.items) (codes
    "{\"backend\":") ((compact_text (objects_data c.report.inside.backend)) ++ (((codes ",\"dry\":")
    ++ compact_text (boolean c.report.inside.dry)) ++ ((codes ",\"failed\":") ++ ((compact_text
    (objects_data c.report.inside.failed)) ++ ((codes ",\"ignored\":") ++ compact_text (list_data
    pair_data c.report.inside.ignored.items)))))) c.in_ok-put_text.ensures.ok (fails_then
    (g.W.Write.contents c.put_text.new.writer) (g.W.Write.contents c.put_objects.new.writer)
    (g.W.Write.contents c.put_keyed.new.writer) (c.put_text.new.block.items)
    (c.put_objects.new.block.items) (compact_text (objects_data c.report.inside.backend)) (((codes
    ",\"dry\":") ++ compact_text (boolean c.report.inside.dry)) ++ ((codes ",\"failed\":") ++
    ((compact_text (objects_data c.report.inside.failed)) ++ ((codes ",\"ignored\":") ++
    compact_text (list_data pair_data c.report.inside.ignored.items)))))
    c.in_ok-put_objects.ensures.ok (fails_first (g.W.Write.contents c.put_objects.new.writer)
    (g.W.Write.contents c.put_keyed.new.writer) (c.put_objects.new.block.items) ((codes ",\"dry\":")
    ++ compact_text (boolean c.report.inside.dry)) ((codes ",\"failed\":") ++ ((compact_text
    (objects_data c.report.inside.failed)) ++ ((codes ",\"ignored\":") ++ compact_text (list_data
    pair_data c.report.inside.ignored.items)))) c.in_err-put_keyed.ensures.err))))

pub returns-in_err-put_text-2-clause-err : goal.returns-in_err-put_text-2-clause-err
returns-in_err-put_text-2-clause-err g c = holds_on_err c.from_residual-in_err-put_text-2.result
    (fails_as (g.W.Write.contents c.args.writer.now) (g.W.Write.contents c.put_text-2.new.writer)
    (c.args.block.now.items) _ _ (ap front_text c.report.view_is) (fails_then (g.W.Write.contents
    c.args.writer.now) (g.W.Write.contents c.put_text.new.writer) (g.W.Write.contents
    c.put_text-2.new.writer) (c.args.block.now.items) (c.put_text.new.block.items) (codes
    "{\"backend\":") ((compact_text (objects_data c.report.inside.backend)) ++ (((codes ",\"dry\":")
    ++ compact_text (boolean c.report.inside.dry)) ++ ((codes ",\"failed\":") ++ ((compact_text
    (objects_data c.report.inside.failed)) ++ ((codes ",\"ignored\":") ++ compact_text (list_data
    pair_data c.report.inside.ignored.items)))))) c.in_ok-put_text.ensures.ok (fails_then
    (g.W.Write.contents c.put_text.new.writer) (g.W.Write.contents c.put_objects.new.writer)
    (g.W.Write.contents c.put_text-2.new.writer) (c.put_text.new.block.items)
    (c.put_objects.new.block.items) (compact_text (objects_data c.report.inside.backend)) (((codes
    ",\"dry\":") ++ compact_text (boolean c.report.inside.dry)) ++ ((codes ",\"failed\":") ++
    ((compact_text (objects_data c.report.inside.failed)) ++ ((codes ",\"ignored\":") ++
    compact_text (list_data pair_data c.report.inside.ignored.items)))))
    c.in_ok-put_objects.ensures.ok (fails_then (g.W.Write.contents c.put_objects.new.writer)
    (g.W.Write.contents c.put_keyed.new.writer) (g.W.Write.contents c.put_text-2.new.writer)
    (c.put_objects.new.block.items) (c.put_keyed.new.block.items) ((codes ",\"dry\":") ++
    compact_text (boolean c.report.inside.dry)) ((codes ",\"failed\":") ++ ((compact_text
    (objects_data c.report.inside.failed)) ++ ((codes ",\"ignored\":") ++ compact_text (list_data
    pair_data c.report.inside.ignored.items)))) c.in_ok-put_keyed.ensures.ok (fails_first
    (g.W.Write.contents c.put_keyed.new.writer) (g.W.Write.contents c.put_text-2.new.writer)
    (c.put_keyed.new.block.items) (codes ",\"failed\":") ((compact_text (objects_data
    c.report.inside.failed)) ++ ((codes ",\"ignored\":") ++ compact_text (list_data pair_data
    c.report.inside.ignored.items))) c.in_err-put_text-2.ensures.err)))))

pub returns-in_err-put_objects-2-clause-err : goal.returns-in_err-put_objects-2-clause-err
returns-in_err-put_objects-2-clause-err g c = holds_on_err
    c.from_residual-in_err-put_objects-2.result (fails_as (g.W.Write.contents c.args.writer.now)
    (g.W.Write.contents c.put_objects-2.new.writer) (c.args.block.now.items) _ _ (ap front_text
    c.report.view_is) (fails_then (g.W.Write.contents c.args.writer.now) (g.W.Write.contents
    c.put_text.new.writer) (g.W.Write.contents c.put_objects-2.new.writer) (c.args.block.now.items)
    (c.put_text.new.block.items) (codes "{\"backend\":") ((compact_text (objects_data
    c.report.inside.backend)) ++ (((codes ",\"dry\":") ++ compact_text (boolean
    c.report.inside.dry)) ++ ((codes ",\"failed\":") ++ ((compact_text (objects_data
    c.report.inside.failed)) ++ ((codes ",\"ignored\":") ++ compact_text (list_data pair_data
    c.report.inside.ignored.items)))))) c.in_ok-put_text.ensures.ok (fails_then (g.W.Write.contents
    c.put_text.new.writer) (g.W.Write.contents c.put_objects.new.writer) (g.W.Write.contents
    c.put_objects-2.new.writer) (c.put_text.new.block.items) (c.put_objects.new.block.items)
    (compact_text (objects_data c.report.inside.backend)) (((codes ",\"dry\":") ++ compact_text
    (boolean c.report.inside.dry)) ++ ((codes ",\"failed\":") ++ ((compact_text (objects_data
    c.report.inside.failed)) ++ ((codes ",\"ignored\":") ++ compact_text (list_data pair_data
    c.report.inside.ignored.items))))) c.in_ok-put_objects.ensures.ok (fails_then
    (g.W.Write.contents c.put_objects.new.writer) (g.W.Write.contents c.put_keyed.new.writer)
    (g.W.Write.contents c.put_objects-2.new.writer) (c.put_objects.new.block.items)
    (c.put_keyed.new.block.items) ((codes ",\"dry\":") ++ compact_text (boolean
    c.report.inside.dry)) ((codes ",\"failed\":") ++ ((compact_text (objects_data
    c.report.inside.failed)) ++ ((codes ",\"ignored\":") ++ compact_text (list_data pair_data
    c.report.inside.ignored.items)))) c.in_ok-put_keyed.ensures.ok (fails_then (g.W.Write.contents
    c.put_keyed.new.writer) (g.W.Write.contents c.put_text-2.new.writer) (g.W.Write.contents
    c.put_objects-2.new.writer) (c.put_keyed.new.block.items) (c.put_text-2.new.block.items) (codes
    ",\"failed\":") ((compact_text (objects_data c.report.inside.failed)) ++ ((codes
    ",\"ignored\":") ++ compact_text (list_data pair_data c.report.inside.ignored.items)))
    c.in_ok-put_text-2.ensures.ok (fails_first (g.W.Write.contents c.put_text-2.new.writer)
    (g.W.Write.contents c.put_objects-2.new.writer) (c.put_text-2.new.block.items) (compact_text
    (objects_data c.report.inside.failed)) ((codes ",\"ignored\":") ++ compact_text (list_data
    pair_data c.report.inside.ignored.items)) c.in_err-put_objects-2.ensures.err))))))

pub returns-clause-err : goal.returns-clause-err
returns-clause-err g c = on_err_weaker c.put_member.result (λ w. fails_as (g.W.Write.contents
    c.args.writer.now) (g.W.Write.contents c.put_member.new.writer) (c.args.block.now.items) _ _ (ap
    front_text c.report.view_is) (fails_then (g.W.Write.contents c.args.writer.now)
    (g.W.Write.contents c.put_text.new.writer) (g.W.Write.contents c.put_member.new.writer)
    (c.args.block.now.items) (c.put_text.new.block.items) (codes "{\"backend\":") ((compact_text
    (objects_data c.report.inside.backend)) ++ (((codes ",\"dry\":") ++ compact_text (boolean
    c.report.inside.dry)) ++ ((codes ",\"failed\":") ++ ((compact_text (objects_data
    c.report.inside.failed)) ++ ((codes ",\"ignored\":") ++ compact_text (list_data pair_data
    c.report.inside.ignored.items)))))) c.in_ok-put_text.ensures.ok (fails_then (g.W.Write.contents
    c.put_text.new.writer) (g.W.Write.contents c.put_objects.new.writer) (g.W.Write.contents
    c.put_member.new.writer) (c.put_text.new.block.items) (c.put_objects.new.block.items)
    (compact_text (objects_data c.report.inside.backend)) (((codes ",\"dry\":") ++ compact_text
    (boolean c.report.inside.dry)) ++ ((codes ",\"failed\":") ++ ((compact_text (objects_data
    c.report.inside.failed)) ++ ((codes ",\"ignored\":") ++ compact_text (list_data pair_data
    c.report.inside.ignored.items))))) c.in_ok-put_objects.ensures.ok (fails_then
    (g.W.Write.contents c.put_objects.new.writer) (g.W.Write.contents c.put_keyed.new.writer)
    (g.W.Write.contents c.put_member.new.writer) (c.put_objects.new.block.items)
    (c.put_keyed.new.block.items) ((codes ",\"dry\":") ++ compact_text (boolean
    c.report.inside.dry)) ((codes ",\"failed\":") ++ ((compact_text (objects_data
    c.report.inside.failed)) ++ ((codes ",\"ignored\":") ++ compact_text (list_data pair_data
    c.report.inside.ignored.items)))) c.in_ok-put_keyed.ensures.ok (fails_then (g.W.Write.contents
    c.put_keyed.new.writer) (g.W.Write.contents c.put_text-2.new.writer) (g.W.Write.contents
    c.put_member.new.writer) (c.put_keyed.new.block.items) (c.put_text-2.new.block.items) (codes
    ",\"failed\":") ((compact_text (objects_data c.report.inside.failed)) ++ ((codes
    ",\"ignored\":") ++ compact_text (list_data pair_data c.report.inside.ignored.items)))
    c.in_ok-put_text-2.ensures.ok (fails_then (g.W.Write.contents c.put_text-2.new.writer)
    (g.W.Write.contents c.put_objects-2.new.writer) (g.W.Write.contents c.put_member.new.writer)
    (c.put_text-2.new.block.items) (c.put_objects-2.new.block.items) (compact_text (objects_data
    c.report.inside.failed)) ((codes ",\"ignored\":") ++ compact_text (list_data pair_data
    c.report.inside.ignored.items)) c.in_ok-put_objects-2.ensures.ok (w)))))))
    c.put_member.ensures.err

pub returns-clause-ok : goal.returns-clause-ok
returns-clause-ok g c = on_ok_weaker c.put_member.result (λ w. subst (Puts (g.W.Write.contents
    c.args.writer.now) (c.args.block.now.items) (g.W.Write.contents c.put_member.new.writer)
    (c.put_member.new.block.items)) (ap front_text c.report.view_is) (puts_then (g.W.Write.contents
    c.args.writer.now) (g.W.Write.contents c.put_text.new.writer) (g.W.Write.contents
    c.put_member.new.writer) (c.args.block.now.items) (c.put_text.new.block.items)
    (c.put_member.new.block.items) (codes "{\"backend\":") ((compact_text (objects_data
    c.report.inside.backend)) ++ (((codes ",\"dry\":") ++ compact_text (boolean
    c.report.inside.dry)) ++ ((codes ",\"failed\":") ++ ((compact_text (objects_data
    c.report.inside.failed)) ++ ((codes ",\"ignored\":") ++ compact_text (list_data pair_data
    c.report.inside.ignored.items)))))) c.in_ok-put_text.ensures.ok (puts_then (g.W.Write.contents
    c.put_text.new.writer) (g.W.Write.contents c.put_objects.new.writer) (g.W.Write.contents
    c.put_member.new.writer) (c.put_text.new.block.items) (c.put_objects.new.block.items)
    (c.put_member.new.block.items) (compact_text (objects_data c.report.inside.backend)) (((codes
    ",\"dry\":") ++ compact_text (boolean c.report.inside.dry)) ++ ((codes ",\"failed\":") ++
    ((compact_text (objects_data c.report.inside.failed)) ++ ((codes ",\"ignored\":") ++
    compact_text (list_data pair_data c.report.inside.ignored.items)))))
    c.in_ok-put_objects.ensures.ok (puts_then (g.W.Write.contents c.put_objects.new.writer)
    (g.W.Write.contents c.put_keyed.new.writer) (g.W.Write.contents c.put_member.new.writer)
    (c.put_objects.new.block.items) (c.put_keyed.new.block.items) (c.put_member.new.block.items)
    ((codes ",\"dry\":") ++ compact_text (boolean c.report.inside.dry)) ((codes ",\"failed\":") ++
    ((compact_text (objects_data c.report.inside.failed)) ++ ((codes ",\"ignored\":") ++
    compact_text (list_data pair_data c.report.inside.ignored.items)))) c.in_ok-put_keyed.ensures.ok
    (puts_then (g.W.Write.contents c.put_keyed.new.writer) (g.W.Write.contents
    c.put_text-2.new.writer) (g.W.Write.contents c.put_member.new.writer)
    (c.put_keyed.new.block.items) (c.put_text-2.new.block.items) (c.put_member.new.block.items)
    (codes ",\"failed\":") ((compact_text (objects_data c.report.inside.failed)) ++ ((codes
    ",\"ignored\":") ++ compact_text (list_data pair_data c.report.inside.ignored.items)))
    c.in_ok-put_text-2.ensures.ok (puts_then (g.W.Write.contents c.put_text-2.new.writer)
    (g.W.Write.contents c.put_objects-2.new.writer) (g.W.Write.contents c.put_member.new.writer)
    (c.put_text-2.new.block.items) (c.put_objects-2.new.block.items) (c.put_member.new.block.items)
    (compact_text (objects_data c.report.inside.failed)) ((codes ",\"ignored\":") ++ compact_text
    (list_data pair_data c.report.inside.ignored.items)) c.in_ok-put_objects-2.ensures.ok (w)))))))
    c.put_member.ensures.ok
