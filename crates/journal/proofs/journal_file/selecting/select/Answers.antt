use Rattle.std.proofs.Common.{◌∙◌, sym}
use Rattle.journal.proofs.PutSelectors.{none_left, selected_now, whole_now, left_now}
use Rattle.journal.proofs.journal_file.selecting.select.Goals as goal

-- nothing was put
pub returns-in_err-said-clause-crash : goal.returns-in_err-said-clause-crash
returns-in_err-said-clause-crash g c out left =
    (out, c.read_selector.ensures.crash out left, none_left c.args.is_standby out)

pub returns-then-not-is_ended-clause-crash : goal.returns-then-not-is_ended-clause-crash
returns-then-not-is_ended-clause-crash g c out left =
    (out, c.read_selector.ensures.crash out left, none_left c.args.is_standby out)

-- the selector was put, or a part of it
pub returns-in_err-put_selector-clause-crash : goal.returns-in_err-put_selector-clause-crash
returns-in_err-put_selector-clause-crash g c out left =
    let from = c.put_selector.ensures.crash out left in
    (from.0, c.read_selector.ensures.crash from.0 from.1, from.2)

pub returns-clause-crash : goal.returns-clause-crash
returns-clause-crash g c out left =
    let from = c.put_selector.ensures.crash out left in
    (from.0, c.read_selector.ensures.crash from.0 from.1, from.2)

pub returns-clause-selector : goal.returns-clause-selector
returns-clause-selector g c clean =
    selected_now c.args.is_standby c.in_ok-said.said.is_ended _ _ _ c.read_selector.ensures.seen
    (c.in_ok-said.ensures.ended (sym c.put_selector.ensures.calm ∙ clean)) c.if-not-is_ended.false
    c.in_ok-put_selector.ensures.ok c.in_ok-put_selector.ensures.same

pub returns-clause-whole : goal.returns-clause-whole
returns-clause-whole g c clean =
    whole_now c.args.is_standby c.in_ok-said.said.is_ended _ _ _ c.read_selector.ensures.seen
    (c.in_ok-said.ensures.ended (sym c.put_selector.ensures.calm ∙ clean)) c.if-not-is_ended.false
    c.in_ok-put_selector.ensures.ok c.in_ok-put_selector.ensures.same

pub returns-clause-left : goal.returns-clause-left
returns-clause-left g c clean =
    left_now c.args.is_standby c.in_ok-said.said.is_ended _ _ _ c.read_selector.ensures.seen
    (c.in_ok-said.ensures.ended (sym c.put_selector.ensures.calm ∙ clean)) c.if-not-is_ended.false
    c.in_ok-put_selector.ensures.ok c.in_ok-put_selector.ensures.same
