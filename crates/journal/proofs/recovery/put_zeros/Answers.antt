use Rattle.std.proofs.Common.{◌≡◌, ◌∙◌, ap, refl, ℕ, List, replicate, length, inl, arith}
use Rattle.std.proofs.lemmas.List.{length-replicate}
use Rattle.journal.specs.Crashes.{written}
use Rattle.journal.proofs.Blanking.{left_of}
use Rattle.journal.proofs.recovery.put_zeros.Goals as goal

pub returns-clause-ok : goal.returns-clause-ok
returns-clause-ok g c clean =
    let are : c.deref.result.now ≡ replicate c.args.count 0 = c.deref.ensures.value
    ∙ c.in_ok-zeros.ensures in
    let size : length c.deref.result.now ≡ c.args.count = ap length are
    ∙ length-replicate c.args.count 0 in
    let fits = c.in_ok-put.ensures.fits clean in (
      c.in_ok-put.ensures.ok clean
          ∙ ap (λ (b : List ℕ). written c.args.at b (g.D.Log.text c.args.log.now)) are,
      omega
          (arith, fits, size),
      c.in_ok-put.ensures.durable clean,
    )

-- nothing was put
pub returns-in_err-zeros-clause-crash : goal.returns-in_err-zeros-clause-crash
returns-in_err-zeros-clause-crash g c clean only out left =
    left_of _ c.args.at c.args.count (replicate c.args.count 0) (g.D.Log.may_leave c.args.log.now)
    (g.D.Log.may_leave c.args.log.now) refl only (inl (λ t now. now)) out left

pub returns-in_err-put-clause-crash : goal.returns-in_err-put-clause-crash
returns-in_err-put-clause-crash g c clean only out left =
    left_of _ c.args.at c.args.count c.deref.result.now _ _
    (c.deref.ensures.value ∙ c.in_ok-zeros.ensures) only
    (c.put.ensures.crash clean only) out left

pub returns-clause-crash : goal.returns-clause-crash
returns-clause-crash g c clean only out left =
    left_of _ c.args.at c.args.count c.deref.result.now _ _
    (c.deref.ensures.value ∙ c.in_ok-zeros.ensures) only
    (c.put.ensures.crash clean only) out left
