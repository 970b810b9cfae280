use Rattle.std.proofs.Common.{◌++◌, ◌==◌, codes, ap, subst}
use Rattle.std.proofs.lemmas.Result.{on_ok_weaker, on_err_weaker}
use Rattle.serde_json.specs.Written.{compact_text}
use Rattle.gc_report.specs.Reports.{count_data, kept_data, removed_data}
use Rattle.reply_line.specs.Blocks.{Puts}
use Rattle.reply_line.specs.ReportTexts.{images_text, end_text}
use Rattle.reply_line.proofs.Putting.{fails_first, fails_then, puts_then, holds_on_err, fails_as}
use Rattle.reply_line.proofs.report_blocks.put_end.Goals as goal

pub returns-in_err-put_images-clause-err : goal.returns-in_err-put_images-clause-err
returns-in_err-put_images-clause-err g c = holds_on_err c.from_residual.result (fails_as
    (g.W.Write.contents c.args.writer.now) (g.W.Write.contents c.put_images.new.writer)
    (c.args.block.now.items) _ _ (ap end_text c.report.view_is) (fails_first (g.W.Write.contents
    c.args.writer.now) (g.W.Write.contents c.put_images.new.writer) (c.args.block.now.items)
    (images_text (c.report.inside.profile == 2) (codes ",\"ignored_images\":")
    c.report.inside.ignored_images.items) (((codes ",\"kept\":") ++ compact_text (kept_data
    c.report.inside.kept)) ++ ((codes ",\"removed\":") ++ ((compact_text (removed_data
    (c.report.inside.profile == 2) c.report.inside.removed)) ++ (((codes ",\"scanned\":") ++
    compact_text (count_data c.report.inside.scanned)) ++ (codes "}")))))
    c.in_err-put_images.ensures.err))

pub returns-in_err-put_keyed-clause-err : goal.returns-in_err-put_keyed-clause-err
returns-in_err-put_keyed-clause-err g c = holds_on_err c.from_residual-in_err-put_keyed.result
    (fails_as (g.W.Write.contents c.args.writer.now) (g.W.Write.contents c.put_keyed.new.writer)
    (c.args.block.now.items) _ _ (ap end_text c.report.view_is) (fails_then (g.W.Write.contents
    c.args.writer.now) (g.W.Write.contents c.put_images.new.writer) (g.W.Write.contents
    c.put_keyed.new.writer) (c.args.block.now.items) (c.put_images.new.block.items) (images_text
    (c.report.inside.profile == 2) (codes ",\"ignored_images\":")
    c.report.inside.ignored_images.items) (((codes ",\"kept\":") ++ compact_text (kept_data
    c.report.inside.kept)) ++ ((codes ",\"removed\":") ++ ((compact_text (removed_data
    (c.report.inside.profile == 2) c.report.inside.removed)) ++ (((codes ",\"scanned\":") ++
    compact_text (count_data c.report.inside.scanned)) ++ (codes "}")))))
    c.in_ok-put_images.ensures.ok (fails_first (g.W.Write.contents c.put_images.new.writer)
    (g.W.Write.contents c.put_keyed.new.writer) (c.put_images.new.block.items) ((codes ",\"kept\":")
    ++ compact_text (kept_data c.report.inside.kept)) ((codes ",\"removed\":") ++ ((compact_text
    (removed_data (c.report.inside.profile == 2) c.report.inside.removed)) ++ (((codes
    ",\"scanned\":") ++ compact_text (count_data c.report.inside.scanned)) ++ (codes "}"))))
    c.in_err-put_keyed.ensures.err)))

pub returns-in_err-put_text-clause-err : goal.returns-in_err-put_text-clause-err
returns-in_err-put_text-clause-err g c = holds_on_err c.from_residual-in_err-put_text.result
    (fails_as (g.W.Write.contents c.args.writer.now) (g.W.Write.contents c.put_text.new.writer)
    (c.args.block.now.items) _ _ (ap end_text c.report.view_is) (fails_then (g.W.Write.contents
    c.args.writer.now) (g.W.Write.contents c.put_images.new.writer) (g.W.Write.contents
    c.put_text.new.writer) (c.args.block.now.items) (c.put_images.new.block.items) (images_text
    (c.report.inside.profile == 2) (codes ",\"ignored_images\":")
    c.report.inside.ignored_images.items) (((codes ",\"kept\":") ++ compact_text (kept_data
    c.report.inside.kept)) ++ ((codes ",\"removed\":") ++ ((compact_text (removed_data
    (c.report.inside.profile == 2) c.report.inside.removed)) ++ (((codes ",\"scanned\":") ++
    compact_text (count_data c.report.inside.scanned)) ++ (codes "}")))))
    c.in_ok-put_images.ensures.ok (fails_then (g.W.Write.contents c.put_images.new.writer)
    (g.W.Write.contents c.put_keyed.new.writer) (g.W.Write.contents c.put_text.new.writer)
    (c.put_images.new.block.items) (c.put_keyed.new.block.items) ((codes ",\"kept\":") ++
    compact_text (kept_data c.report.inside.kept)) ((codes ",\"removed\":") ++ ((compact_text
    (removed_data (c.report.inside.profile == 2) c.report.inside.removed)) ++ (((codes
    ",\"scanned\":") ++ compact_text (count_data c.report.inside.scanned)) ++ (codes "}"))))
    c.in_ok-put_keyed.ensures.ok (fails_first (g.W.Write.contents c.put_keyed.new.writer)
    (g.W.Write.contents c.put_text.new.writer) (c.put_keyed.new.block.items) (codes ",\"removed\":")
    ((compact_text (removed_data (c.report.inside.profile == 2) c.report.inside.removed)) ++
    (((codes ",\"scanned\":") ++ compact_text (count_data c.report.inside.scanned)) ++ (codes "}")))
    c.in_err-put_text.ensures.err))))

pub returns-in_err-put_removed-clause-err : goal.returns-in_err-put_removed-clause-err
returns-in_err-put_removed-clause-err g c = holds_on_err c.from_residual-in_err-put_removed.result
    (fails_as (g.W.Write.contents c.args.writer.now) (g.W.Write.contents c.put_removed.new.writer)
    (c.args.block.now.items) _ _ (ap end_text c.report.view_is) (fails_then (g.W.Write.contents
    c.args.writer.now) (g.W.Write.contents c.put_images.new.writer) (g.W.Write.contents
    c.put_removed.new.writer) (c.args.block.now.items) (c.put_images.new.block.items) (images_text
    (c.report.inside.profile == 2) (codes ",\"ignored_images\":")
    c.report.inside.ignored_images.items) (((codes ",\"kept\":") ++ compact_text (kept_data
    c.report.inside.kept)) ++ ((codes ",\"removed\":") ++ ((compact_text (removed_data
    (c.report.inside.profile == 2) c.report.inside.removed)) ++ (((codes ",\"scanned\":") ++
    compact_text (count_data c.report.inside.scanned)) ++ (codes "}")))))
    c.in_ok-put_images.ensures.ok (fails_then (g.W.Write.contents c.put_images.new.writer)
    (g.W.Write.contents c.put_keyed.new.writer) (g.W.Write.contents c.put_removed.new.writer)
    (c.put_images.new.block.items) (c.put_keyed.new.block.items) ((codes ",\"kept\":") ++
    compact_text (kept_data c.report.inside.kept)) ((codes ",\"removed\":") ++ ((compact_text
    (removed_data (c.report.inside.profile == 2) c.report.inside.removed)) ++ (((codes
    ",\"scanned\":") ++ compact_text (count_data c.report.inside.scanned)) ++ (codes "}"))))
    c.in_ok-put_keyed.ensures.ok (fails_then (g.W.Write.contents c.put_keyed.new.writer)
    (g.W.Write.contents c.put_text.new.writer) (g.W.Write.contents c.put_removed.new.writer)
    (c.put_keyed.new.block.items) (c.put_text.new.block.items) (codes ",\"removed\":")
    ((compact_text (removed_data (c.report.inside.profile == 2) c.report.inside.removed)) ++
    (((codes ",\"scanned\":") ++ compact_text (count_data c.report.inside.scanned)) ++ (codes "}")))
    c.in_ok-put_text.ensures.ok (fails_first (g.W.Write.contents c.put_text.new.writer)
    (g.W.Write.contents c.put_removed.new.writer) (c.put_text.new.block.items) (compact_text
    (removed_data (c.report.inside.profile == 2) c.report.inside.removed)) (((codes ",\"scanned\":")
    ++ compact_text (count_data c.report.inside.scanned)) ++ (codes "}"))
    c.in_err-put_removed.ensures.err)))))

pub returns-in_err-put_keyed-2-clause-err : goal.returns-in_err-put_keyed-2-clause-err
returns-in_err-put_keyed-2-clause-err g c = holds_on_err c.from_residual-in_err-put_keyed-2.result
    (fails_as (g.W.Write.contents c.args.writer.now) (g.W.Write.contents c.put_keyed-2.new.writer)
    (c.args.block.now.items) _ _ (ap end_text c.report.view_is) (fails_then (g.W.Write.contents
    c.args.writer.now) (g.W.Write.contents c.put_images.new.writer) (g.W.Write.contents
    c.put_keyed-2.new.writer) (c.args.block.now.items) (c.put_images.new.block.items) (images_text
    (c.report.inside.profile == 2) (codes ",\"ignored_images\":")
    c.report.inside.ignored_images.items) (((codes ",\"kept\":") ++ compact_text (kept_data
    c.report.inside.kept)) ++ ((codes ",\"removed\":") ++ ((compact_text (removed_data
    (c.report.inside.profile == 2) c.report.inside.removed)) ++ (((codes ",\"scanned\":") ++
    compact_text (count_data c.report.inside.scanned)) ++ (codes "}")))))
    c.in_ok-put_images.ensures.ok (fails_then (g.W.Write.contents c.put_images.new.writer)
    (g.W.Write.contents c.put_keyed.new.writer) (g.W.Write.contents c.put_keyed-2.new.writer)
    (c.put_images.new.block.items) (c.put_keyed.new.block.items) ((codes ",\"kept\":") ++
    compact_text (kept_data c.report.inside.kept)) ((codes ",\"removed\":") ++ ((compact_text
    (removed_data (c.report.inside.profile == 2) c.report.inside.removed)) ++ (((codes
    ",\"scanned\":") ++ compact_text (count_data c.report.inside.scanned)) ++ (codes "}"))))
    c.in_ok-put_keyed.ensures.ok (fails_then (g.W.Write.contents c.put_keyed.new.writer)
    (g.W.Write.contents c.put_text.new.writer) (g.W.Write.contents c.put_keyed-2.new.writer)
    (c.put_keyed.new.block.items) (c.put_text.new.block.items) (codes ",\"removed\":")
    ((compact_text (removed_data (c.report.inside.profile == 2) c.report.inside.removed)) ++
    (((codes ",\"scanned\":") ++ compact_text (count_data c.report.inside.scanned)) ++ (codes "}")))
    c.in_ok-put_text.ensures.ok (fails_then (g.W.Write.contents c.put_text.new.writer)
    (g.W.Write.contents c.put_removed.new.writer) (g.W.Write.contents c.put_keyed-2.new.writer)
    (c.put_text.new.block.items) (c.put_removed.new.block.items) (compact_text (removed_data
    (c.report.inside.profile == 2) c.report.inside.removed)) (((codes ",\"scanned\":") ++
    compact_text (count_data c.report.inside.scanned)) ++ (codes "}"))
    c.in_ok-put_removed.ensures.ok (fails_first (g.W.Write.contents c.put_removed.new.writer)
    (g.W.Write.contents c.put_keyed-2.new.writer) (c.put_removed.new.block.items) ((codes
    ",\"scanned\":") ++ compact_text (count_data c.report.inside.scanned)) (codes "}")
    c.in_err-put_keyed-2.ensures.err))))))

pub returns-clause-err : goal.returns-clause-err
returns-clause-err g c = on_err_weaker c.put_text-2.result (λ w. fails_as (g.W.Write.contents
    c.args.writer.now) (g.W.Write.contents c.put_text-2.new.writer) (c.args.block.now.items) _ _ (ap
    end_text c.report.view_is) (fails_then (g.W.Write.contents c.args.writer.now)
    (g.W.Write.contents c.put_images.new.writer) (g.W.Write.contents c.put_text-2.new.writer)
    (c.args.block.now.items) (c.put_images.new.block.items) (images_text (c.report.inside.profile ==
    2) (codes ",\"ignored_images\":") c.report.inside.ignored_images.items) (((codes ",\"kept\":")
    ++ compact_text (kept_data c.report.inside.kept)) ++ ((codes ",\"removed\":") ++ ((compact_text
    (removed_data (c.report.inside.profile == 2) c.report.inside.removed)) ++ (((codes
    ",\"scanned\":") ++ compact_text (count_data c.report.inside.scanned)) ++ (codes "}")))))
    c.in_ok-put_images.ensures.ok (fails_then (g.W.Write.contents c.put_images.new.writer)
    (g.W.Write.contents c.put_keyed.new.writer) (g.W.Write.contents c.put_text-2.new.writer)
    (c.put_images.new.block.items) (c.put_keyed.new.block.items) ((codes ",\"kept\":") ++
    compact_text (kept_data c.report.inside.kept)) ((codes ",\"removed\":") ++ ((compact_text
    (removed_data (c.report.inside.profile == 2) c.report.inside.removed)) ++ (((codes
    ",\"scanned\":") ++ compact_text (count_data c.report.inside.scanned)) ++ (codes "}"))))
    c.in_ok-put_keyed.ensures.ok (fails_then (g.W.Write.contents c.put_keyed.new.writer)
    (g.W.Write.contents c.put_text.new.writer) (g.W.Write.contents c.put_text-2.new.writer)
    (c.put_keyed.new.block.items) (c.put_text.new.block.items) (codes ",\"removed\":")
    ((compact_text (removed_data (c.report.inside.profile == 2) c.report.inside.removed)) ++
    (((codes ",\"scanned\":") ++ compact_text (count_data c.report.inside.scanned)) ++ (codes "}")))
    c.in_ok-put_text.ensures.ok (fails_then (g.W.Write.contents c.put_text.new.writer)
    (g.W.Write.contents c.put_removed.new.writer) (g.W.Write.contents c.put_text-2.new.writer)
    (c.put_text.new.block.items) (c.put_removed.new.block.items) (compact_text (removed_data
    (c.report.inside.profile == 2) c.report.inside.removed)) (((codes ",\"scanned\":") ++
    compact_text (count_data c.report.inside.scanned)) ++ (codes "}"))
    c.in_ok-put_removed.ensures.ok (fails_then (g.W.Write.contents c.put_removed.new.writer)
    (g.W.Write.contents c.put_keyed-2.new.writer) (g.W.Write.contents c.put_text-2.new.writer)
    (c.put_removed.new.block.items) (c.put_keyed-2.new.block.items) ((codes ",\"scanned\":") ++
    compact_text (count_data c.report.inside.scanned)) (codes "}") c.in_ok-put_keyed-2.ensures.ok
    (w))))))) c.put_text-2.ensures.err

pub returns-clause-ok : goal.returns-clause-ok
returns-clause-ok g c = on_ok_weaker c.put_text-2.result (λ w. subst (Puts (g.W.Write.contents
    c.args.writer.now) (c.args.block.now.items) (g.W.Write.contents c.put_text-2.new.writer)
    (c.put_text-2.new.block.items)) (ap end_text c.report.view_is) (puts_then (g.W.Write.contents
    c.args.writer.now) (g.W.Write.contents c.put_images.new.writer) (g.W.Write.contents
    c.put_text-2.new.writer) (c.args.block.now.items) (c.put_images.new.block.items)
    (c.put_text-2.new.block.items) (images_text (c.report.inside.profile == 2) (codes
    ",\"ignored_images\":") c.report.inside.ignored_images.items) (((codes ",\"kept\":") ++
    compact_text (kept_data c.report.inside.kept)) ++ ((codes ",\"removed\":") ++ ((compact_text
    (removed_data (c.report.inside.profile == 2) c.report.inside.removed)) ++ (((codes
    ",\"scanned\":") ++ compact_text (count_data c.report.inside.scanned)) ++ (codes "}")))))
    c.in_ok-put_images.ensures.ok (puts_then (g.W.Write.contents c.put_images.new.writer)
    (g.W.Write.contents c.put_keyed.new.writer) (g.W.Write.contents c.put_text-2.new.writer)
    (c.put_images.new.block.items) (c.put_keyed.new.block.items) (c.put_text-2.new.block.items)
    ((codes ",\"kept\":") ++ compact_text (kept_data c.report.inside.kept)) ((codes ",\"removed\":")
    ++ ((compact_text (removed_data (c.report.inside.profile == 2) c.report.inside.removed)) ++
    (((codes ",\"scanned\":") ++ compact_text (count_data c.report.inside.scanned)) ++ (codes
    "}")))) c.in_ok-put_keyed.ensures.ok (puts_then (g.W.Write.contents c.put_keyed.new.writer)
    (g.W.Write.contents c.put_text.new.writer) (g.W.Write.contents c.put_text-2.new.writer)
    (c.put_keyed.new.block.items) (c.put_text.new.block.items) (c.put_text-2.new.block.items) (codes
    ",\"removed\":") ((compact_text (removed_data (c.report.inside.profile == 2)
    c.report.inside.removed)) ++ (((codes ",\"scanned\":") ++ compact_text (count_data
    c.report.inside.scanned)) ++ (codes "}"))) c.in_ok-put_text.ensures.ok (puts_then
    (g.W.Write.contents c.put_text.new.writer) (g.W.Write.contents c.put_removed.new.writer)
    (g.W.Write.contents c.put_text-2.new.writer) (c.put_text.new.block.items)
    (c.put_removed.new.block.items) (c.put_text-2.new.block.items) (compact_text (removed_data
    (c.report.inside.profile == 2) c.report.inside.removed)) (((codes ",\"scanned\":") ++
    compact_text (count_data c.report.inside.scanned)) ++ (codes "}"))
    c.in_ok-put_removed.ensures.ok (puts_then (g.W.Write.contents c.put_removed.new.writer)
    (g.W.Write.contents c.put_keyed-2.new.writer) (g.W.Write.contents c.put_text-2.new.writer)
    (c.put_removed.new.block.items) (c.put_keyed-2.new.block.items) (c.put_text-2.new.block.items)
    ((codes ",\"scanned\":") ++ compact_text (count_data c.report.inside.scanned)) (codes "}")
    c.in_ok-put_keyed-2.ensures.ok (w))))))) c.put_text-2.ensures.ok
