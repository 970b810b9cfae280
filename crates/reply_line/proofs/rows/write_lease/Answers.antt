use Rattle.std.proofs.Common.{sym, subst}
use Rattle.std.proofs.lemmas.Result.{on_ok_weaker}
use Rattle.serde_json.specs.Data.{string}
use Rattle.reply_line.specs.Replies.{extra_data, labels_data}
use Rattle.gc_report.specs.Writing.{Adds}
use Rattle.gc_report.proofs.Adding.{one, both}
use Rattle.reply_line.proofs.ExtraTokens.{lease_tokens}
use Rattle.reply_line.proofs.rows.write_lease.Goals as goal

-- member by member, data left out where there is none
pub returns : goal.returns
returns c =
    on_ok_weaker c.end_object.result (λ e.
    subst (Adds c.args.out.now c.end_object.new.self) (sym (lease_tokens
    (extra_data c.args.extra.now) (string c.args.id.now) (labels_data c.args.labels.now)))
    (both (one c.args.out.now c.begin_object.new.self c.in_ok-begin_object.ensures.room.0
    c.in_ok-begin_object.ensures.ok)
    (both c.in_ok-write_extra.ensures
    (both c.in_ok-write_member.ensures
    (both c.in_ok-write_labels.ensures
    (one c.write_labels.new.out c.end_object.new.self c.end_object.ensures.room.0 e))))))
    c.end_object.ensures.ok
