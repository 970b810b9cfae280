use Rattle.std.proofs.Common.{sym, subst}
use Rattle.std.proofs.lemmas.Result.{on_ok_weaker}
use Rattle.serde_json.specs.Data.{string}
use Rattle.gc_report.specs.Writing.{Adds}
use Rattle.gc_report.proofs.Adding.{one, both}
use Rattle.reply_line.specs.Replies.{extra_data, labels_data}
use Rattle.reply_line.proofs.ExtraTokens.{image_tokens}
use Rattle.reply_line.proofs.rows.write_image.Goals as goal

-- member by member, data left out where there is none
pub returns : goal.returns
returns c =
    let row = c.args.row.now in
    on_ok_weaker c.end_object.result (λ e.
    subst (Adds c.args.out.now c.end_object.new.self) (sym (image_tokens (extra_data row.extra)
    (labels_data row.labels) (string row.name) (string row.target)))
    (both (one c.args.out.now c.begin_object.new.self c.in_ok-begin_object.ensures.room.0
    c.in_ok-begin_object.ensures.ok)
    (both c.in_ok-write_extra.ensures
    (both c.in_ok-write_labels.ensures
    (both c.in_ok-write_member.ensures
    (both c.in_ok-write_member-2.ensures
    (one c.write_member-2.new.out c.end_object.new.self c.end_object.ensures.room.0 e)))))))
    c.end_object.ensures.ok
