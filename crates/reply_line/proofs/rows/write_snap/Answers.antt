use Rattle.std.proofs.Common.{sym, subst}
use Rattle.std.proofs.lemmas.Result.{on_ok_weaker}
use Rattle.std.specs.Prelude.{option_map}
use Rattle.serde_json.specs.Data.{string}
use Rattle.gc_report.specs.Reports.{count_data}
use Rattle.reply_line.specs.Replies.{extra_data, labels_data, if_any, kind_text}
use Rattle.gc_report.specs.Writing.{Adds}
use Rattle.gc_report.proofs.Adding.{one, both}
use Rattle.reply_line.proofs.ExtraTokens.{snap_tokens}
use Rattle.reply_line.proofs.rows.write_snap.Goals as goal

-- member by member, data left out where there is none
pub returns : goal.returns
returns c =
    on_ok_weaker c.end_object.result (λ e.
    subst (Adds c.args.out.now c.end_object.new.self) (sym (snap_tokens
    (extra_data c.args.row.now.extra) (string c.args.row.now.key.name) (string
    (kind_text c.args.row.now.kind)) (labels_data c.args.row.now.labels)
    (count_data c.args.row.now.number) (if_any string c.args.row.now.parent)
    (option_map count_data c.args.parent_number)))
    (both (one c.args.out.now c.begin_object.new.self c.in_ok-begin_object.ensures.room.0
    c.in_ok-begin_object.ensures.ok)
    (both c.in_ok-write_extra.ensures
    (both c.in_ok-write_member.ensures
    (both (one c.write_member.new.out c.key.new.self c.in_ok-key.ensures.room.0
    c.in_ok-key.ensures.ok)
    (both (one c.key.new.self c.string.new.self c.in_ok-string.ensures.room.0
    (rw c.kind_text.ensures at c.in_ok-string.ensures.ok))
    (both c.in_ok-write_labels.ensures
    (both c.in_ok-write_member-2.ensures
    (both c.in_ok-write_if_any.ensures
    (both c.in_ok-write_count_if.ensures
    (one c.write_count_if.new.out c.end_object.new.self c.end_object.ensures.room.0 e)))))))))))
    c.end_object.ensures.ok
