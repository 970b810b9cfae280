use Rattle.std.proofs.Common.{◌∙◌, ap, ℕ, replicate}
use Rattle.journal.proofs.Zeroing.{nothing_lost}
use Rattle.journal.proofs.journal_file.blanking.blank.Goals as goal

pub returns-in_err-size-clause-crash : goal.returns-in_err-size-clause-crash
returns-in_err-size-clause-crash g c clean only out left = nothing_lost _ out (only out left)

pub returns-clause-ok : goal.returns-clause-ok
returns-clause-ok g c clean =
    let is = c.in_ok-size.ensures.size clean in
    c.in_ok-blank_front.ensures.ok clean is ∙ ap (λ (n : ℕ). replicate n 0) is
