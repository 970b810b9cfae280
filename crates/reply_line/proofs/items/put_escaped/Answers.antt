use Rattle.serde_json.specs.Data.{string}
use Rattle.gc_report.proofs.Adding.{one}
use Rattle.reply_line.proofs.ReportTexts.{value_put}
use Rattle.reply_line.proofs.items.put_escaped.Goals as goal

-- the writer prints its one token behind what stood in the block
pub returns : goal.returns
returns c =
    value_put (string c.args.text.now) c.new-out.result c.string.new.self c.into_inner.result.items
    c.args.block.now.items (rw (← c.replace.ensures.value) c.new-out.ensures.before)
    c.new-out.ensures.tokens (one c.new-out.result c.string.new.self c.string.ensures.room.0
    c.in_ok-string.ensures.ok) c.into_inner.ensures.items
