use Rattle.std.proofs.Common.{◌∙◌, sym, ◌+◌, IfNone, Option, Some, None}
use Rattle.std.proofs.lemmas.List.{take_rest}
use Rattle.journal.proofs.Feeds.{at_first_feed, no_feed}
use Rattle.journal.proofs.lines.cut_line.Goals as goal

on_none : {T Q : Type 0} (o : Option T) → Q → IfNone o Q
on_none None q = q
on_none (Some x) q = tt

pub returns-in_err-at-clause-none : goal.returns-in_err-at-clause-none
returns-in_err-at-clause-none c =
    on_none c.from_residual.result
    (no_feed c.args.bytes.now (sym c.find_line_feed.ensures ∙ c.in_err-at.was))

pub returns-clause-some : goal.returns-clause-some
returns-clause-some c =
    let cut = at_first_feed c.args.bytes.now c.in_ok-at.at
    (sym c.find_line_feed.ensures ∙ c.in_ok-at.was) in
    (rw (take_rest c.args.bytes.now (c.in_ok-at.at + 1)) cut.1, cut.2)
