use Rattle.std.proofs.Common.{sym, subst}
use Rattle.std.proofs.lemmas.Result.{on_ok_weaker}
use Rattle.serde_json.specs.Data.{string}
use Rattle.gc_report.specs.Reports.{pair_data}
use Rattle.reply_line.specs.Replies.{extra_data, labels_data, if_any}
use Rattle.gc_report.specs.Writing.{Adds}
use Rattle.gc_report.proofs.Adding.{one, both}
use Rattle.reply_line.proofs.ExtraTokens.{container_tokens}
use Rattle.reply_line.proofs.rows.write_container.Goals as goal

-- member by member, data left out where there is none
pub returns : goal.returns
returns c =
    on_ok_weaker c.end_object.result (λ e.
    subst (Adds c.args.out.now c.end_object.new.self) (sym (container_tokens
    (extra_data c.args.row.now.extra) (labels_data c.args.row.now.labels)
    (string c.args.row.now.name) (if_any pair_data c.args.row.now.snapshot)))
    (both (one c.args.out.now c.begin_object.new.self c.in_ok-begin_object.ensures.room.0
    c.in_ok-begin_object.ensures.ok)
    (both c.in_ok-write_extra.ensures
    (both c.in_ok-write_labels.ensures
    (both c.in_ok-write_member.ensures
    (both c.in_ok-write_if_any.ensures
    (one c.write_if_any.new.out c.end_object.new.self c.end_object.ensures.room.0 e)))))))
    c.end_object.ensures.ok
