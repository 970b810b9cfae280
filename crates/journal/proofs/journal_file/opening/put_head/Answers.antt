use Rattle.std.proofs.Common.{◌≡◌, ◌∙◌, ap, sym, subst, List, ℕ, length, arith}
use Rattle.journal.specs.Head.{selector_of, IsHead}
use Rattle.journal.proofs.NewHeads.{put_new}
use Rattle.journal.proofs.Openings.{blank_left, new_left}
use Rattle.journal.proofs.journal_file.opening.put_head.Goals as goal

pub returns-in_err-head-clause-crash : goal.returns-in_err-head-clause-crash
returns-in_err-head-clause-crash g c blank long only out left =
    blank_left _ out blank (only out left)

pub returns-then-not-may_be_used-clause-crash : goal.returns-then-not-may_be_used-clause-crash
returns-then-not-may_be_used-clause-crash g c blank long only out left =
    blank_left _ out blank (only out left)

pub returns-then-not-mixes-clause-crash : goal.returns-then-not-mixes-clause-crash
returns-then-not-mixes-clause-crash g c blank long only out left =
    blank_left _ out blank (only out left)

pub returns-in_err-write_through-clause-crash : goal.returns-in_err-write_through-clause-crash
returns-in_err-write_through-clause-crash g c blank long only out left =
    let is = c.deref.ensures.value in
    let size : length c.deref.result.now ≡ 4096 = ap length is ∙ c.in_ok-head.ensures.length in
    let mixing = sym c.mixes.ensures ∙ c.if-not-mixes.false in
    let from = c.write_through.ensures.mixed mixing (omega (arith, size)) out left in
    new_left _ from.0 out c.deref.result.now 4096 blank long
    (subst (λ (t : List ℕ). IsHead t 4096 0) (sym is)
    (c.in_ok-head.ensures.head 4096 (omega arith)))
    size (ap selector_of is ∙ c.in_ok-head.ensures.selector) (only from.0 from.1) from.2

pub returns-clause-crash : goal.returns-clause-crash
returns-clause-crash g c blank long only out left =
    let is = c.deref.ensures.value in
    let size : length c.deref.result.now ≡ 4096 = ap length is ∙ c.in_ok-head.ensures.length in
    let mixing = sym c.mixes.ensures ∙ c.if-not-mixes.false in
    let from = c.write_through.ensures.mixed mixing (omega (arith, size)) out left in
    new_left _ from.0 out c.deref.result.now 4096 blank long
    (subst (λ (t : List ℕ). IsHead t 4096 0) (sym is)
    (c.in_ok-head.ensures.head 4096 (omega arith)))
    size (ap selector_of is ∙ c.in_ok-head.ensures.selector) (only from.0 from.1) from.2

pub returns-clause-ok : goal.returns-clause-ok
returns-clause-ok g c =
    let is = c.deref.ensures.value in
    let size : length c.deref.result.now ≡ 4096 = ap length is ∙ c.in_ok-head.ensures.length in
    put_new c.deref.result.now _ 0
    (subst (λ (t : List ℕ). IsHead t 4096 0) (sym is)
    (c.in_ok-head.ensures.head 4096 (omega arith)))
    size (c.in_ok-write_through.ensures.holds (omega (arith, size)))
