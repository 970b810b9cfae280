use Rattle.std.proofs.Common.{string_bytes}
use Rattle.gc_report.specs.Writing.{tokens_of, Adds}
use Rattle.gc_report.proofs.Adding.{one, both}
use Rattle.reply_line.specs.Foreseen.{foreseen_data}
use Rattle.reply_line.proofs.ImpactTokens.{impact_printed}
use Rattle.reply_line.proofs.impact.printed.Goals as goal

-- the brace, the impact, that it is ok, and the closing brace
pub returns : goal.returns
returns c =
    let empty = c.new-out.result in
    let ended = c.end_object.new.self in
    let impact = c.args.impact.now in
    let begins = c.in_ok-begin_object.ensures in
    let ends = c.in_ok-end_object.ensures in
    let all : Adds empty ended (tokens_of (foreseen_data impact)) =
    both (one empty c.begin_object.new.self begins.room.0 begins.ok)
    (both c.in_ok-write_member.ensures
    (both c.in_ok-write_member-2.ensures
    (one c.write_member-2.new.out ended ends.room.0 ends.ok))) in
    impact_printed impact empty ended (string_bytes c.into_text.result) c.new-out.ensures.tokens all
    c.into_text.ensures
