use Rattle.std.proofs.Common.{string_bytes}
use Rattle.meta_types.specs.Steps.{answered}
use Rattle.meta_types.specs.declared.reply.Reply.TheVariants as R
use Rattle.gc_report.specs.Writing.{tokens_of, Adds}
use Rattle.gc_report.proofs.Adding.{one, both}
use Rattle.reply_line.specs.Replies.{answer_data}
use Rattle.reply_line.proofs.Printed.{answer_printed}
use Rattle.reply_line.proofs.reply.row_text.Goals as goal

-- the brace, that it is ok, the row, and the closing brace
pub returns : goal.returns
returns c =
    let empty = c.new-out.result in
    let all : Adds empty c.end_object.new.self (tokens_of (answer_data
    (answered (R.Row c.args.row.now)))) =
    both (one empty c.begin_object.new.self c.in_ok-begin_object.ensures.room.0
    c.in_ok-begin_object.ensures.ok)
    (both c.in_ok-write_member.ensures (both (one c.write_member.new.out c.key.new.self
    c.in_ok-key.ensures.room.0 c.in_ok-key.ensures.ok)
    (both c.in_ok-write_row.ensures (one c.write_row.new.out c.end_object.new.self
    c.in_ok-end_object.ensures.room.0 c.in_ok-end_object.ensures.ok)))) in
    answer_printed (answered (R.Row c.args.row.now)) empty c.end_object.new.self
    (string_bytes c.into_text.result) c.new-out.ensures.tokens all c.into_text.ensures
