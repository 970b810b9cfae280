use Rattle.std.proofs.Common.{◌∙◌, sym, arith}
use Rattle.journal.proofs.Formats.{none_left, format_left}
use Rattle.journal.proofs.journal_file.format.put_format.Goals as goal

pub returns-then-not-may_be_used-clause-crash : goal.returns-then-not-may_be_used-clause-crash
returns-then-not-may_be_used-clause-crash g c out left = (out, left, none_left out)

pub returns-then-not-mixes-clause-crash : goal.returns-then-not-mixes-clause-crash
returns-then-not-mixes-clause-crash g c out left = (out, left, none_left out)

pub returns-in_err-put-clause-crash : goal.returns-in_err-put-clause-crash
returns-in_err-put-clause-crash g c out left =
    let mixing = sym c.mixes.ensures ∙ c.if-not-mixes.false in
    let from = c.put.ensures.mixed mixing (omega arith) out left in
    (from.0, from.1, format_left from.0 out from.2)

pub returns-clause-crash : goal.returns-clause-crash
returns-clause-crash g c out left =
    let mixing = sym c.mixes.ensures ∙ c.if-not-mixes.false in
    let from = c.put.ensures.mixed mixing (omega arith) out left in
    (from.0, from.1, format_left from.0 out from.2)
