use Rattle.std.proofs.Common.{◌∙◌, subst, List, ℕ}
use Rattle.std.specs.Io.KnownBytes.{Appends}
use Rattle.line_loop.specs.Runs.{WritesFront}
use Rattle.line_loop.proofs.Writers.{front_of_both, front_behind, on_err}
use Rattle.kept_store.proofs.run.clocked.write_refusal.Goals as goal

-- the text wasn't written whole
pub returns-in_err-write_bytes-clause-err : goal.returns-in_err-write_bytes-clause-err
returns-in_err-write_bytes-clause-err g c =
    on_err c.from_residual.result
    (front_of_both _ _ _ _
    (subst (λ (t : List ℕ). (rest : List ℕ) × WritesFront (g.W.Write.contents c.args.writer.now)
    (g.W.Write.contents c.write_bytes.new.writer) rest t)
    (c.as_bytes.ensures.value ∙ c.refusal_text.ensures) c.in_err-write_bytes.ensures.err))

-- the line feed wasn't written
pub returns-in_err-write_bytes-2-clause-err : goal.returns-in_err-write_bytes-2-clause-err
returns-in_err-write_bytes-2-clause-err g c =
    on_err c.from_residual-in_err-write_bytes-2.result
    (front_behind _ _ _ _ _
    (subst (λ (t : List ℕ). Appends (g.W.Write.contents c.args.writer.now)
    (g.W.Write.contents c.write_bytes.new.writer) t)
    (c.as_bytes.ensures.value ∙ c.refusal_text.ensures) c.in_ok-write_bytes.ensures.ok)
    c.in_err-write_bytes-2.ensures.err)
