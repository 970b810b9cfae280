use Rattle.std.proofs.Common.{◌∙◌, ap, sym, ℕ, List, ◌++◌, ◌∷◌, append_assoc}
use Rattle.journal.specs.Reading.{found}
use Rattle.journal.proofs.Clear.{noise_within}
use Rattle.journal.proofs.Errors.{same_error}
use Rattle.journal.proofs.reader.Reader.read_line.Goals as goal

-- a byte of the line is in no UTF-8 text
pub returns-in_err-add-clause-damaged : goal.returns-in_err-add-clause-damaged
returns-in_err-add-clause-damaged c is none first text rest r =
    noise_within first text c.args.line.now (10 ∷ rest)
    (c.add.ensures.damaged
    (same_error _ _ _ _ c.in_err-add.was c.from_residual.ensures.1 is))

-- the line's bytes, and its line feed behind them
pub returns-in_err-end_line-clause-damaged : goal.returns-in_err-end_line-clause-damaged
returns-in_err-end_line-clause-damaged c is none first text rest r =
    ap (λ (t : List ℕ). (found first t).is_damaged)
    (sym (append_assoc text c.args.line.now (10 ∷ rest)))
    ∙ c.end_line.ensures.damaged
    (same_error _ _ _ _ c.in_err-end_line.was c.from_residual-in_err-end_line.ensures.1 is)
    first (text ++ c.args.line.now) rest (c.in_ok-add.ensures.ok first text r none)
