use Rattle.std.proofs.Common.{◌∙◌, []}
use Rattle.reply_line.specs.Shown.{shown_data}
use Rattle.reply_line.proofs.ReportTexts.{value_put}
use Rattle.reply_line.proofs.items.shown_text.Goals as goal

-- the writer prints the row into an empty text
pub returns : goal.returns
returns c =
    value_put (shown_data c.args.row.now) c.new-out.result c.write_shown.new.out
    c.into_inner.result.items [] (c.new-out.ensures.before ∙ c.in_ok-with_capacity.ensures.items)
    c.new-out.ensures.tokens c.in_ok-write_shown.ensures c.into_inner.ensures.items
