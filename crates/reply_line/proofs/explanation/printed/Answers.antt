use Rattle.std.proofs.Common.{string_bytes}
use Rattle.gc_report.specs.Reports.{list_data}
use Rattle.gc_report.specs.Writing.{tokens_of, Adds}
use Rattle.gc_report.proofs.Adding.{one, both}
use Rattle.reply_line.specs.Explained.{step_data, told_of, told_data}
use Rattle.reply_line.proofs.StepTokens.{told_printed}
use Rattle.reply_line.proofs.explanation.printed.Goals as goal

-- the brace, whether it is kept, that it is ok, the path, and the closing brace
pub returns : goal.returns
returns c =
    let empty = c.new-out.result in
    let told = told_of c.args.explanation.now in
    let path : Adds c.key.new.self c.write_path.new.out (tokens_of (list_data step_data told.path)) = rw c.deref.ensures.value at c.in_ok-write_path.ensures in
    let all : Adds empty c.end_object.new.self (tokens_of (told_data told)) =
    both (one empty c.begin_object.new.self c.in_ok-begin_object.ensures.room.0 c.in_ok-begin_object.ensures.ok)
    (both c.in_ok-write_member.ensures (both c.in_ok-write_member-2.ensures
    (both (one c.write_member-2.new.out c.key.new.self c.in_ok-key.ensures.room.0 c.in_ok-key.ensures.ok)
    (both path (one c.write_path.new.out c.end_object.new.self c.in_ok-end_object.ensures.room.0 c.in_ok-end_object.ensures.ok))))) in
    told_printed told empty c.end_object.new.self (string_bytes c.into_text.result) c.new-out.ensures.tokens all c.into_text.ensures
