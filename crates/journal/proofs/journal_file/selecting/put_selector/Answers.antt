use Rattle.std.proofs.Common.{◌∙◌, ap, sym, subst, List, ℕ, length, arith}
use Rattle.sqlite_disk.specs.Disk.{Mixed}
use Rattle.journal.specs.Crashes.{written}
use Rattle.journal.proofs.PutSelectors.{none_left, selector_left}
use Rattle.journal.proofs.journal_file.selecting.put_selector.Goals as goal

pub returns-then-not-may_be_used-clause-crash : goal.returns-then-not-may_be_used-clause-crash
returns-then-not-may_be_used-clause-crash g c out left =
    (out, left, none_left c.args.is_standby out)

pub returns-then-not-mixes-clause-crash : goal.returns-then-not-mixes-clause-crash
returns-then-not-mixes-clause-crash g c out left = (out, left, none_left c.args.is_standby out)

pub returns-in_err-put-clause-crash : goal.returns-in_err-put-clause-crash
returns-in_err-put-clause-crash g c out left =
    let is = c.selector_bytes-bytes.ensures in
    let size = ap length is in
    let mixing = sym c.mixes.ensures ∙ c.if-not-mixes.false in
    let from = c.put.ensures.mixed mixing (omega (arith, size)) out left in (
      from.0,
      from.1,
      selector_left c.args.is_standby from.0 out
          (subst (λ (b : List ℕ). Mixed 4091 b from.0 out) is from.2),
    )

pub returns-clause-crash : goal.returns-clause-crash
returns-clause-crash g c out left =
    let is = c.selector_bytes-bytes.ensures in
    let size = ap length is in
    let mixing = sym c.mixes.ensures ∙ c.if-not-mixes.false in
    let from = c.put.ensures.mixed mixing (omega (arith, size)) out left in (
      from.0,
      from.1,
      selector_left c.args.is_standby from.0 out
          (subst (λ (b : List ℕ). Mixed 4091 b from.0 out) is from.2),
    )

pub returns-clause-ok : goal.returns-clause-ok
returns-clause-ok g c long =
    let is = c.selector_bytes-bytes.ensures in
    let size = ap length is in
    c.in_ok-put.ensures.ok (omega (arith, size, long))
    ∙ ap (λ (b : List ℕ). written 4091 b (g.D.Disk.seen c.args.disk.now)) is

pub returns-clause-same : goal.returns-clause-same
returns-clause-same g c long =
    let size = ap length c.selector_bytes-bytes.ensures in
    c.in_ok-put.ensures.same (omega (arith, size, long))
