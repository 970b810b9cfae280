use Rattle.std.proofs.Common.{sym, subst}
use Rattle.std.proofs.lemmas.Result.{on_ok_weaker}
use Rattle.std.specs.Prelude.{is_some}
use Rattle.serde_json.specs.Data.{string, boolean}
use Rattle.gc_report.specs.Reports.{count_data}
use Rattle.reply_line.specs.Replies.{extra_data, if_any}
use Rattle.gc_report.specs.Writing.{Adds}
use Rattle.gc_report.proofs.Adding.{one, both}
use Rattle.reply_line.proofs.ExtraTokens.{ingest_tokens}
use Rattle.reply_line.proofs.rows.write_ingest.Goals as goal

-- member by member, data left out where there is none
pub returns : goal.returns
returns c =
    on_ok_weaker c.end_object.result (λ e.
    subst (Adds c.args.out.now c.end_object.new.self) (sym (ingest_tokens
    (extra_data c.args.row.now.extra) (if_any string c.args.row.now.expected)
    (count_data c.args.row.now.number) (boolean (is_some c.args.row.now.expires))
    (string c.args.row.now.name)))
    (both (one c.args.out.now c.begin_object.new.self c.in_ok-begin_object.ensures.room.0
    c.in_ok-begin_object.ensures.ok)
    (both c.in_ok-write_extra.ensures
    (both c.in_ok-write_if_any.ensures
    (both c.in_ok-write_member.ensures
    (both (rw c.is_some.ensures at c.in_ok-write_member-2.ensures)
    (both c.in_ok-write_member-3.ensures
    (one c.write_member-3.new.out c.end_object.new.self c.end_object.ensures.room.0 e))))))))
    c.end_object.ensures.ok
