use Rattle.std.proofs.Common.{◌++◌, codes, subst}
use Rattle.std.proofs.lemmas.Result.{on_ok_weaker, on_err_weaker}
use Rattle.serde_json.specs.Written.{compact_text}
use Rattle.gc_report.specs.Reports.{objects_data}
use Rattle.reply_line.specs.Blocks.{Puts}
use Rattle.reply_line.proofs.Putting.{fails_first, fails_then, puts_then, holds_on_err, fails_as}
use Rattle.reply_line.proofs.ShownTexts.{objects_text_whole}
use Rattle.reply_line.proofs.rows_blocks.put_object_lists.Goals as goal

-- what stands before isn't written whole
pub returns-in_err-put_text-clause-err : goal.returns-in_err-put_text-clause-err
returns-in_err-put_text-clause-err g c =
    let h0 = g.W.Write.contents c.args.writer.now in
    let h1 = g.W.Write.contents c.put_text.new.writer in
    let b0 = c.args.block.now.items in
    let middle = compact_text (objects_data c.args.objects.now) in
    holds_on_err c.from_residual.result (fails_as h0 h1 b0 _ _
    (objects_text_whole c.args.objects.now)
    (fails_first h0 h1 b0 (codes "{\"backend\":") (middle ++ codes ",\"ok\":true}\n")
    c.in_err-put_text.ensures.err))

-- the list isn't
pub returns-in_err-put_objects-clause-err : goal.returns-in_err-put_objects-clause-err
returns-in_err-put_objects-clause-err g c =
    let h0 = g.W.Write.contents c.args.writer.now in
    let h1 = g.W.Write.contents c.put_text.new.writer in
    let h2 = g.W.Write.contents c.put_objects.new.writer in
    let b0 = c.args.block.now.items in
    let b1 = c.put_text.new.block.items in
    let middle = compact_text (objects_data c.args.objects.now) in
    holds_on_err c.from_residual-in_err-put_objects.result (fails_as h0 h2 b0 _ _
    (objects_text_whole c.args.objects.now)
    (fails_then h0 h1 h2 b0 b1 (codes "{\"backend\":") (middle ++ codes ",\"ok\":true}\n")
    c.in_ok-put_text.ensures.ok
    (fails_first h1 h2 b1 middle (codes ",\"ok\":true}\n") c.in_err-put_objects.ensures.err)))

-- what stands behind it isn't
pub returns-clause-err : goal.returns-clause-err
returns-clause-err g c =
    let h0 = g.W.Write.contents c.args.writer.now in
    let h1 = g.W.Write.contents c.put_text.new.writer in
    let h2 = g.W.Write.contents c.put_objects.new.writer in
    let h3 = g.W.Write.contents c.put_text-2.new.writer in
    let b0 = c.args.block.now.items in
    let b1 = c.put_text.new.block.items in
    let b2 = c.put_objects.new.block.items in
    let middle = compact_text (objects_data c.args.objects.now) in
    on_err_weaker c.put_text-2.result (λ w. fails_as h0 h3 b0 _ _
    (objects_text_whole c.args.objects.now)
    (fails_then h0 h1 h3 b0 b1 (codes "{\"backend\":") (middle ++ codes ",\"ok\":true}\n")
    c.in_ok-put_text.ensures.ok
    (fails_then h1 h2 h3 b1 b2 middle (codes ",\"ok\":true}\n") c.in_ok-put_objects.ensures.ok w)))
    c.put_text-2.ensures.err

pub returns-clause-ok : goal.returns-clause-ok
returns-clause-ok g c =
    let h0 = g.W.Write.contents c.args.writer.now in
    let h1 = g.W.Write.contents c.put_text.new.writer in
    let h2 = g.W.Write.contents c.put_objects.new.writer in
    let h3 = g.W.Write.contents c.put_text-2.new.writer in
    let b0 = c.args.block.now.items in
    let b1 = c.put_text.new.block.items in
    let b2 = c.put_objects.new.block.items in
    let b3 = c.put_text-2.new.block.items in
    let middle = compact_text (objects_data c.args.objects.now) in
    on_ok_weaker c.put_text-2.result (λ w. subst (Puts h0 b0 h3 b3)
    (objects_text_whole c.args.objects.now)
    (puts_then h0 h1 h3 b0 b1 b3 (codes "{\"backend\":") (middle ++ codes ",\"ok\":true}\n")
    c.in_ok-put_text.ensures.ok
    (puts_then h1 h2 h3 b1 b2 b3 middle (codes ",\"ok\":true}\n") c.in_ok-put_objects.ensures.ok
    w)))
    c.put_text-2.ensures.ok
