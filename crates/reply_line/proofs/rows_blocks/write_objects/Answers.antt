use Rattle.std.proofs.Common.{◌++◌, ◌∷◌, []}
use Rattle.std.proofs.lemmas.Result.{on_err_weaker}
use Rattle.reply_line.specs.Shown.{objects_text}
use Rattle.reply_line.proofs.Putting.{writes_then, holds_on_err}
use Rattle.reply_line.proofs.rows_blocks.write_objects.Goals as goal

pub returns-in_err-put_object_lists-clause-err : goal.returns-in_err-put_object_lists-clause-err
returns-in_err-put_object_lists-clause-err g c =
    holds_on_err c.from_residual.result (rw c.clear.ensures.items at
    c.in_err-put_object_lists.ensures.err)

-- the last block isn't written whole
pub returns-clause-err : goal.returns-clause-err
returns-clause-err g c =
    let h0 = g.W.Write.contents c.args.writer.now in
    let h1 = g.W.Write.contents c.put_object_lists.new.writer in
    let h2 = g.W.Write.contents c.write_bytes.new.writer in
    let text = objects_text c.args.objects.now ++ 10 ∷ [] in
    let front = rw c.clear.ensures.items at c.in_ok-put_object_lists.ensures.ok in
    on_err_weaker c.write_bytes.result (λ w. (
      w.0,
      writes_then h0 h1 h2 c.put_object_lists.new.block.items w.0 text front
          (rw c.deref.ensures.value at w.1),
    )) c.write_bytes.ensures.err
