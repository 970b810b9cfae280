use Rattle.std.proofs.Common.{◌≡◌, ◌∙◌, ap, ℕ, List, replicate, length, arith}
use Rattle.std.proofs.lemmas.List.{length-replicate}
use Rattle.journal.specs.Crashes.{written}
use Rattle.journal.proofs.Zeroing.{piece_left, nothing_lost}
use Rattle.journal.proofs.journal_file.blanking.blank_piece.Goals as goal

pub returns-clause-ok : goal.returns-clause-ok
returns-clause-ok g c clean =
    let are : c.deref.result.now ≡ replicate c.args.count 0 = c.deref.ensures.value
    ∙ c.in_ok-zeros.ensures in
    let size : length c.deref.result.now ≡ c.args.count = ap length are
    ∙ length-replicate c.args.count 0 in
    let fits = c.in_ok-put.ensures.fits clean in (
      c.in_ok-put.ensures.ok clean
          ∙ ap (λ (b : List ℕ). written c.args.at b (g.L.Log.text c.args.log.now)) are,
      omega
          (arith, fits, size),
      c.in_ok-put.ensures.durable clean,
    )

pub returns-in_err-zeros-clause-crash : goal.returns-in_err-zeros-clause-crash
returns-in_err-zeros-clause-crash g c clean only out left = nothing_lost _ out (only out left)

pub returns-in_err-put-clause-crash : goal.returns-in_err-put-clause-crash
returns-in_err-put-clause-crash g c clean only out left =
    piece_left _ c.deref.result.now c.args.at c.args.count _ _
    (c.deref.ensures.value ∙ c.in_ok-zeros.ensures) only
    (c.put.ensures.crash clean only) out left

pub returns-clause-crash : goal.returns-clause-crash
returns-clause-crash g c clean only out left =
    piece_left _ c.deref.result.now c.args.at c.args.count _ _
    (c.deref.ensures.value ∙ c.in_ok-zeros.ensures) only
    (c.put.ensures.crash clean only) out left
