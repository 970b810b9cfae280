use Rattle.std.proofs.Common.{◌≡◌, ◌∙◌, ◌++◌, [], ap, subst}
use Rattle.std.proofs.lemmas.Result.{on_err_weaker}
use Rattle.reply_line.specs.Blocks.{Puts}
use Rattle.reply_line.proofs.Putting.{WritesFront-none, puts_here, holds_on_err}
use Rattle.reply_line.proofs.blocks.put_text.Goals as goal

-- no room: nothing was written
pub returns-in_err-extend_from_slice-clause-err : goal.returns-in_err-extend_from_slice-clause-err
returns-in_err-extend_from_slice-clause-err g c =
    let all = c.args.block.now.items ++ c.args.text.now in
    holds_on_err c.from_residual.result (
      all,
      WritesFront-none (g.W.Write.contents
          c.args.writer.now) all,
    )

-- a full block wasn't written whole
pub returns-clause-err : goal.returns-clause-err
returns-clause-err g c =
    let h0 = g.W.Write.contents c.args.writer.now in
    let h1 = g.W.Write.contents c.pour.new.writer in
    let is : c.extend_from_slice.new.self.items ≡ c.args.block.now.items ++ c.args.text.now =
    c.in_ok-extend_from_slice.ensures.items ∙ ap (λ t. c.args.block.now.items ++ t)
    c.as_bytes.ensures.value in
    on_err_weaker c.pour.result (λ w. (
      w.0,
      puts_here h0 h1 c.args.block.now.items w.0
          c.args.text.now (subst (λ b. Puts h0 b h1 w.0 []) is w.1),
    )) c.pour.ensures.err
