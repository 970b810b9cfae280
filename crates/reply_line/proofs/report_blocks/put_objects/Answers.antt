use Rattle.std.proofs.Common.{◌∙◌, ◌++◌, codes, ap, subst}
use Rattle.std.proofs.lemmas.Result.{on_ok_weaker, on_err_weaker}
use Rattle.serde_json.specs.Data.{string}
use Rattle.serde_json.specs.Written.{compact_text}
use Rattle.gc_report.specs.Reports.{count_data, snapshot_data, list_data, objects_data}
use Rattle.reply_line.specs.Blocks.{Puts}
use Rattle.reply_line.proofs.Putting.{fails_first, fails_then, puts_then, holds_on_err, fails_as}
use Rattle.reply_line.proofs.ReportTexts.{objects_whole}
use Rattle.reply_line.proofs.report_blocks.put_objects.Goals as goal

pub returns-in_err-put_member-clause-err : goal.returns-in_err-put_member-clause-err
returns-in_err-put_member-clause-err g c = holds_on_err c.from_residual.result (fails_as
    (g.W.Write.contents c.args.writer.now) (g.W.Write.contents c.put_member.new.writer)
    (c.args.block.now.items) _ _ (objects_whole (record {
      blobs = c.objects.inside.blobs.items;
      ingests = c.objects.inside.ingests.items;
      snapshots = c.objects.inside.snapshots.items;
    }) ∙ ap
    (λ o. compact_text (objects_data o)) c.objects.view_is) (fails_first (g.W.Write.contents
    c.args.writer.now) (g.W.Write.contents c.put_member.new.writer) (c.args.block.now.items) ((codes
    "{\"blobs\":") ++ compact_text (list_data string c.objects.inside.blobs.items)) (((codes
    ",\"ingests\":") ++ compact_text (list_data count_data c.objects.inside.ingests.items)) ++
    (((codes ",\"snapshots\":") ++ compact_text (list_data snapshot_data
    c.objects.inside.snapshots.items)) ++ (codes "}"))) c.in_err-put_member.ensures.err))

pub returns-in_err-put_member-2-clause-err : goal.returns-in_err-put_member-2-clause-err
returns-in_err-put_member-2-clause-err g c = holds_on_err c.from_residual-in_err-put_member-2.result
    (fails_as (g.W.Write.contents c.args.writer.now) (g.W.Write.contents c.put_member-2.new.writer)
    (c.args.block.now.items) _ _ (objects_whole (record {
      blobs = c.objects.inside.blobs.items;
      ingests = c.objects.inside.ingests.items;
      snapshots = c.objects.inside.snapshots.items;
    }) ∙ ap
    (λ o. compact_text (objects_data o)) c.objects.view_is) (fails_then (g.W.Write.contents
    c.args.writer.now) (g.W.Write.contents c.put_member.new.writer) (g.W.Write.contents
    c.put_member-2.new.writer) (c.args.block.now.items) (c.put_member.new.block.items) ((codes
    "{\"blobs\":") ++ compact_text (list_data string c.objects.inside.blobs.items)) (((codes
    ",\"ingests\":") ++ compact_text (list_data count_data c.objects.inside.ingests.items)) ++
    (((codes ",\"snapshots\":") ++ compact_text (list_data snapshot_data
    c.objects.inside.snapshots.items)) ++ (codes "}"))) c.in_ok-put_member.ensures.ok (fails_first
    (g.W.Write.contents c.put_member.new.writer) (g.W.Write.contents c.put_member-2.new.writer)
    (c.put_member.new.block.items) ((codes ",\"ingests\":") ++ compact_text (list_data count_data
    c.objects.inside.ingests.items)) (((codes ",\"snapshots\":") ++ compact_text (list_data
    snapshot_data c.objects.inside.snapshots.items)) ++ (codes "}"))
    c.in_err-put_member-2.ensures.err)))

pub returns-in_err-put_member-3-clause-err : goal.returns-in_err-put_member-3-clause-err
returns-in_err-put_member-3-clause-err g c = holds_on_err c.from_residual-in_err-put_member-3.result
    (fails_as (g.W.Write.contents c.args.writer.now) (g.W.Write.contents c.put_member-3.new.writer)
    (c.args.block.now.items) _ _ (objects_whole (record {
      blobs = c.objects.inside.blobs.items;
      ingests = c.objects.inside.ingests.items;
      snapshots = c.objects.inside.snapshots.items;
    }) ∙ ap
    (λ o. compact_text (objects_data o)) c.objects.view_is) (fails_then (g.W.Write.contents
    c.args.writer.now) (g.W.Write.contents c.put_member.new.writer) (g.W.Write.contents
    c.put_member-3.new.writer) (c.args.block.now.items) (c.put_member.new.block.items) ((codes
    "{\"blobs\":") ++ compact_text (list_data string c.objects.inside.blobs.items)) (((codes
    ",\"ingests\":") ++ compact_text (list_data count_data c.objects.inside.ingests.items)) ++
    (((codes ",\"snapshots\":") ++ compact_text (list_data snapshot_data
    c.objects.inside.snapshots.items)) ++ (codes "}"))) c.in_ok-put_member.ensures.ok (fails_then
    (g.W.Write.contents c.put_member.new.writer) (g.W.Write.contents c.put_member-2.new.writer)
    (g.W.Write.contents c.put_member-3.new.writer) (c.put_member.new.block.items)
    (c.put_member-2.new.block.items) ((codes ",\"ingests\":") ++ compact_text (list_data count_data
    c.objects.inside.ingests.items)) (((codes ",\"snapshots\":") ++ compact_text (list_data
    snapshot_data c.objects.inside.snapshots.items)) ++ (codes "}")) c.in_ok-put_member-2.ensures.ok
    (fails_first (g.W.Write.contents c.put_member-2.new.writer) (g.W.Write.contents
    c.put_member-3.new.writer) (c.put_member-2.new.block.items) ((codes ",\"snapshots\":") ++
    compact_text (list_data snapshot_data c.objects.inside.snapshots.items)) (codes "}")
    c.in_err-put_member-3.ensures.err))))

pub returns-clause-err : goal.returns-clause-err
returns-clause-err g c = on_err_weaker c.put_text.result (λ w. fails_as (g.W.Write.contents
    c.args.writer.now) (g.W.Write.contents c.put_text.new.writer) (c.args.block.now.items) _ _
    (objects_whole (record {
      blobs = c.objects.inside.blobs.items;
      ingests =
          c.objects.inside.ingests.items;
      snapshots = c.objects.inside.snapshots.items;
    }) ∙ ap (λ o.
    compact_text (objects_data o)) c.objects.view_is) (fails_then (g.W.Write.contents
    c.args.writer.now) (g.W.Write.contents c.put_member.new.writer) (g.W.Write.contents
    c.put_text.new.writer) (c.args.block.now.items) (c.put_member.new.block.items) ((codes
    "{\"blobs\":") ++ compact_text (list_data string c.objects.inside.blobs.items)) (((codes
    ",\"ingests\":") ++ compact_text (list_data count_data c.objects.inside.ingests.items)) ++
    (((codes ",\"snapshots\":") ++ compact_text (list_data snapshot_data
    c.objects.inside.snapshots.items)) ++ (codes "}"))) c.in_ok-put_member.ensures.ok (fails_then
    (g.W.Write.contents c.put_member.new.writer) (g.W.Write.contents c.put_member-2.new.writer)
    (g.W.Write.contents c.put_text.new.writer) (c.put_member.new.block.items)
    (c.put_member-2.new.block.items) ((codes ",\"ingests\":") ++ compact_text (list_data count_data
    c.objects.inside.ingests.items)) (((codes ",\"snapshots\":") ++ compact_text (list_data
    snapshot_data c.objects.inside.snapshots.items)) ++ (codes "}")) c.in_ok-put_member-2.ensures.ok
    (fails_then (g.W.Write.contents c.put_member-2.new.writer) (g.W.Write.contents
    c.put_member-3.new.writer) (g.W.Write.contents c.put_text.new.writer)
    (c.put_member-2.new.block.items) (c.put_member-3.new.block.items) ((codes ",\"snapshots\":") ++
    compact_text (list_data snapshot_data c.objects.inside.snapshots.items)) (codes "}")
    c.in_ok-put_member-3.ensures.ok (w))))) c.put_text.ensures.err

pub returns-clause-ok : goal.returns-clause-ok
returns-clause-ok g c = on_ok_weaker c.put_text.result (λ w. subst (Puts (g.W.Write.contents
    c.args.writer.now) (c.args.block.now.items) (g.W.Write.contents c.put_text.new.writer)
    (c.put_text.new.block.items)) (objects_whole (record {
      blobs = c.objects.inside.blobs.items;
      ingests = c.objects.inside.ingests.items;
      snapshots = c.objects.inside.snapshots.items;
    }) ∙ ap
    (λ o. compact_text (objects_data o)) c.objects.view_is) (puts_then (g.W.Write.contents
    c.args.writer.now) (g.W.Write.contents c.put_member.new.writer) (g.W.Write.contents
    c.put_text.new.writer) (c.args.block.now.items) (c.put_member.new.block.items)
    (c.put_text.new.block.items) ((codes "{\"blobs\":") ++ compact_text (list_data string
    c.objects.inside.blobs.items)) (((codes ",\"ingests\":") ++ compact_text (list_data count_data
    c.objects.inside.ingests.items)) ++ (((codes ",\"snapshots\":") ++ compact_text (list_data
    snapshot_data c.objects.inside.snapshots.items)) ++ (codes "}"))) c.in_ok-put_member.ensures.ok
    (puts_then (g.W.Write.contents c.put_member.new.writer) (g.W.Write.contents
    c.put_member-2.new.writer) (g.W.Write.contents c.put_text.new.writer)
    (c.put_member.new.block.items) (c.put_member-2.new.block.items) (c.put_text.new.block.items)
    ((codes ",\"ingests\":") ++ compact_text (list_data count_data c.objects.inside.ingests.items))
    (((codes ",\"snapshots\":") ++ compact_text (list_data snapshot_data
    c.objects.inside.snapshots.items)) ++ (codes "}")) c.in_ok-put_member-2.ensures.ok (puts_then
    (g.W.Write.contents c.put_member-2.new.writer) (g.W.Write.contents c.put_member-3.new.writer)
    (g.W.Write.contents c.put_text.new.writer) (c.put_member-2.new.block.items)
    (c.put_member-3.new.block.items) (c.put_text.new.block.items) ((codes ",\"snapshots\":") ++
    compact_text (list_data snapshot_data c.objects.inside.snapshots.items)) (codes "}")
    c.in_ok-put_member-3.ensures.ok (w))))) c.put_text.ensures.ok
