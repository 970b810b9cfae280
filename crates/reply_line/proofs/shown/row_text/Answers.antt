use Rattle.std.proofs.Common.{string_bytes, subst, sym}
use Rattle.meta_types.specs.Shown.{Shown, shows_row}
use Rattle.gc_report.specs.Writing.{tokens_of, Adds}
use Rattle.gc_report.proofs.Adding.{one, both}
use Rattle.reply_line.specs.Shown.{shown_data, shows_data, there_in}
use Rattle.reply_line.proofs.ShownTexts.{shown_tokens, shown_printed}
use Rattle.reply_line.proofs.shown.row_text.Goals as goal

-- the brace, that it is ok, the row, whether it was there, and the closing brace
pub returns : goal.returns
returns c =
    let empty = c.new-out.result in
    let ended = c.end_object.new.self in
    let shown : Shown = shows_row c.args.there c.args.row.now in
    let begins = c.in_ok-begin_object.ensures in
    let ends = c.in_ok-end_object.ensures in
    let all : Adds empty ended (tokens_of (shows_data shown)) =
    subst (Adds empty ended) (sym (shown_tokens (shown_data c.args.row.now)
    (there_in c.args.there)))
    (both (one empty c.begin_object.new.self begins.room.0 begins.ok)
    (both c.in_ok-write_member.ensures
    (both (one c.write_member.new.out c.key.new.self c.in_ok-key.ensures.room.0
    c.in_ok-key.ensures.ok)
    (both c.in_ok-write_shown.ensures
    (both c.in_ok-write_there.ensures
    (one c.write_there.new.out ended ends.room.0 ends.ok)))))) in
    shown_printed shown empty ended (string_bytes c.into_text.result) c.new-out.ensures.tokens all
    c.into_text.ensures
