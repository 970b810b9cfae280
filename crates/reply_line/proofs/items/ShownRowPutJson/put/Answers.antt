use Rattle.std.proofs.Common.{◌∙◌, ap, ◌++◌}
use Rattle.reply_line.specs.Shown.{shown_data}
use Rattle.reply_line.proofs.ReportTexts.{value_put}
use Rattle.reply_line.proofs.items.ShownRowPutJson.put.Goals as goal

-- the row's text is put behind what stood in the block
pub returns-in-Ok : goal.returns-in-Ok
returns-in-Ok c =
    c.in_ok-extend_from_slice.ensures.items ∙ ap (λ text. c.args.block.now.items ++ text)
    (c.deref.ensures.value ∙ c.in-Ok.ensures)

-- the writer prints the row there
pub returns : goal.returns
returns c =
    value_put (shown_data c.args.self.now) c.new-out.result c.write_shown.new.out
    c.into_inner.result.items c.args.block.now.items
    (rw (← c.replace.ensures.value) c.new-out.ensures.before) c.new-out.ensures.tokens
    c.in_ok-write_shown.ensures c.into_inner.ensures.items
