use Rattle.std.proofs.Common.{◌++◌, [], subst}
use Rattle.std.proofs.lemmas.Result.{on_ok_weaker, on_err_weaker}
use Rattle.serde_json.specs.Written.{compact_text}
use Rattle.reply_line.specs.Blocks.{Puts}
use Rattle.reply_line.proofs.Putting.{WritesFront-none, puts_here, holds_on_err}
use Rattle.reply_line.proofs.ReportTexts.{value_put}
use Rattle.reply_line.proofs.blocks.put_value.Goals as goal

-- no room: nothing was written
pub returns-in_err-write-clause-err : goal.returns-in_err-write-clause-err
returns-in_err-write-clause-err g c =
    let all = c.args.block.now.items ++ compact_text (g.T.WriteJson.as_data c.args.value.now) in
    holds_on_err c.from_residual.result (
      all,
      WritesFront-none (g.W.Write.contents
          c.args.writer.now) all,
    )

-- the value stands behind what stood in the block
pub returns-clause-ok : goal.returns-clause-ok
returns-clause-ok g c =
    let h0 = g.W.Write.contents c.args.writer.now in
    let h1 = g.W.Write.contents c.pour.new.writer in
    let value = g.T.WriteJson.as_data c.args.value.now in
    let stood = c.args.block.now.items in
    let is = value_put value c.new-out.result c.write.new.out c.into_inner.result.items stood (rw (←
    c.replace.ensures.value) c.new-out.ensures.before) c.new-out.ensures.tokens
    c.in_ok-write.ensures c.into_inner.ensures.items in
    on_ok_weaker c.pour.result (λ w. puts_here h0 h1 stood c.pour.new.block.items (compact_text
    value) (subst (λ b. Puts h0 b h1 c.pour.new.block.items []) is w)) c.pour.ensures.ok

pub returns-clause-err : goal.returns-clause-err
returns-clause-err g c =
    let h0 = g.W.Write.contents c.args.writer.now in
    let h1 = g.W.Write.contents c.pour.new.writer in
    let value = g.T.WriteJson.as_data c.args.value.now in
    let stood = c.args.block.now.items in
    let is = value_put value c.new-out.result c.write.new.out c.into_inner.result.items stood (rw (←
    c.replace.ensures.value) c.new-out.ensures.before) c.new-out.ensures.tokens
    c.in_ok-write.ensures c.into_inner.ensures.items in
    on_err_weaker c.pour.result (λ w. (
      w.0,
      puts_here h0 h1 stood w.0 (compact_text value) (subst (λ
          b. Puts h0 b h1 w.0 []) is w.1),
    )) c.pour.ensures.err
