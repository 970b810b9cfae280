use Rattle.std.proofs.Common.{refl, ◌∙◌, arith}
use Rattle.journal.proofs.Blanks.{long_zeros}
use Rattle.journal.proofs.Openings.{blank_left, long_left}
use Rattle.journal.proofs.journal_file.opening.make_long.Goals as goal

pub returns-then-size-ge-HEAD_END-clause-ok : goal.returns-then-size-ge-HEAD_END-clause-ok
returns-then-size-ge-HEAD_END-clause-ok g c is blank =
    (blank, omega (arith, is, c.if-size-ge-HEAD_END.true))

pub returns-then-size-ge-HEAD_END-clause-crash : goal.returns-then-size-ge-HEAD_END-clause-crash
returns-then-size-ge-HEAD_END-clause-crash g c is blank only out left =
    blank_left _ out blank (only out left)

pub returns-in_err-zeros-clause-crash : goal.returns-in_err-zeros-clause-crash
returns-in_err-zeros-clause-crash g c is blank only out left =
    blank_left _ out blank (only out left)

pub returns-in_err-write_through-clause-crash : goal.returns-in_err-write_through-clause-crash
returns-in_err-write_through-clause-crash g c is blank only out left =
    let from = c.write_through.ensures.crash out left in
    long_left c.deref.result.now _ from.0 out _ c.args.size
    (c.deref.ensures.value ∙ c.in_ok-zeros.ensures) refl c.if-size-ge-HEAD_END.false is
    (only from.0 from.1) from.2

pub returns-clause-crash : goal.returns-clause-crash
returns-clause-crash g c is blank only out left =
    let from = c.write_through.ensures.crash out left in
    long_left c.deref.result.now _ from.0 out _ c.args.size
    (c.deref.ensures.value ∙ c.in_ok-zeros.ensures) refl c.if-size-ge-HEAD_END.false is
    (only from.0 from.1) from.2

pub returns-clause-ok : goal.returns-clause-ok
returns-clause-ok g c is blank =
    long_zeros _ _ _ c.deref.result.now (c.deref.ensures.value ∙ c.in_ok-zeros.ensures) refl
    (omega (arith, is, c.if-size-ge-HEAD_END.false))
    c.in_ok-write_through.ensures.torn c.in_ok-write_through.ensures.holds
