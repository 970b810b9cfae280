use Rattle.std.proofs.Common.{◌++◌, ◌∷◌, [], true}
use Rattle.std.proofs.lemmas.Result.{on_ok_weaker, on_err_weaker}
use Rattle.serde_json.specs.Written.{compact_text, comma_if}
use Rattle.reply_line.specs.Blocks.{Puts}
use Rattle.reply_line.proofs.Putting.{WritesFront-none, fails_then, puts_into, puts_nothing, puts_then, holds_on_err}
use Rattle.reply_line.proofs.blocks.put_item.Goals as goal
use Rattle.reply_line.proofs.blocks.put_item.Goals.{then-later+in_ok-push, else-later}

-- no room: nothing was written
pub returns-in_err-push-clause-err : goal.returns-in_err-push-clause-err
returns-in_err-push-clause-err g c =
    let all = c.args.block.now.items ++ (comma_if c.args.later ++ compact_text
    (g.T.PutJson.as_data c.args.item.now)) in
    holds_on_err c.from_residual.result (
      all,
      WritesFront-none (g.W.Write.contents
          c.args.writer.now) all,
    )

pub returns-clause-ok : goal.returns-clause-ok
returns-clause-ok g c =
    let h0 = g.W.Write.contents c.args.writer.now in
    let b0 = c.args.block.now.items in
    let first : Puts h0 b0 h0 c.if-later.block.items (comma_if c.args.later) = elim
    c.if-later.branch [
      | then-later+in_ok-push w ↦ rw (w.block-is, w.if-later.true)
          (puts_into h0 b0 w.push.new.self.items (44 ∷ []) w.in_ok-push.ensures.items)
      | else-later w ↦ rw (w.block-is, w.if-later.false) (puts_nothing h0 b0)
    ] in
    on_ok_weaker c.put_named.result (λ p. puts_then h0 h0 (g.W.Write.contents
    c.put_named.new.writer) b0 c.if-later.block.items c.put_named.new.block.items (comma_if
    c.args.later) (compact_text (g.T.PutJson.as_data c.args.item.now)) first p)
    c.put_named.ensures.ok

pub returns-clause-err : goal.returns-clause-err
returns-clause-err g c =
    let h0 = g.W.Write.contents c.args.writer.now in
    let b0 = c.args.block.now.items in
    let first : Puts h0 b0 h0 c.if-later.block.items (comma_if c.args.later) = elim
    c.if-later.branch [
      | then-later+in_ok-push w ↦ rw (w.block-is, w.if-later.true)
          (puts_into h0 b0 w.push.new.self.items (44 ∷ []) w.in_ok-push.ensures.items)
      | else-later w ↦ rw (w.block-is, w.if-later.false) (puts_nothing h0 b0)
    ] in
    on_err_weaker c.put_named.result (λ p. fails_then h0 h0 (g.W.Write.contents
    c.put_named.new.writer) b0 c.if-later.block.items (comma_if c.args.later) (compact_text
    (g.T.PutJson.as_data c.args.item.now)) first p) c.put_named.ensures.err
