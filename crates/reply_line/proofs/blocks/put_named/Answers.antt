use Rattle.std.proofs.Common.{◌++◌}
use Rattle.serde_json.specs.Written.{compact_text}
use Rattle.reply_line.proofs.Putting.{WritesFront-none, holds_on_err}
use Rattle.reply_line.proofs.blocks.put_named.Goals as goal

-- no room: nothing was written
pub returns-in_err-put-clause-err : goal.returns-in_err-put-clause-err
returns-in_err-put-clause-err g c =
    let all = c.args.block.now.items ++ compact_text (g.T.PutJson.as_data c.args.named.now) in
    holds_on_err c.from_residual.result (
      all,
      WritesFront-none (g.W.Write.contents
          c.args.writer.now) all,
    )
