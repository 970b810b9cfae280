use Rattle.std.proofs.Common.{◌∙◌, inr}
use Rattle.journal.proofs.Growth.{torn_same, torn_from, torn_over, holds_to}
use Rattle.journal.proofs.journal_file.growing.add_zeros.Goals as goal

pub returns-in_err-sync-clause-torn : goal.returns-in_err-sync-clause-torn
returns-in_err-sync-clause-torn g c = torn_same _ _ _ _ c.sync.ensures.seen

pub returns-in_err-append_zeros-clause-torn : goal.returns-in_err-append_zeros-clause-torn
returns-in_err-append_zeros-clause-torn g c =
    torn_from _ _ _ _ _ c.sync.ensures.seen c.append_zeros.ensures.torn

pub returns-in_err-sync-2-clause-torn : goal.returns-in_err-sync-2-clause-torn
returns-in_err-sync-2-clause-torn g c =
    torn_over _ _ _ _ _ _ c.sync.ensures.seen c.append_zeros.ensures.torn c.sync-2.ensures.seen

pub returns-clause-torn : goal.returns-clause-torn
returns-clause-torn g c =
    torn_over _ _ _ _ _ _ c.sync.ensures.seen c.append_zeros.ensures.torn c.sync-2.ensures.seen

pub returns-clause-holds : goal.returns-clause-holds
returns-clause-holds g c less =
    holds_to _ _ _ _ c.sync-2.ensures.seen (c.in_ok-append_zeros.ensures.holds less)

pub returns-in_err-append_zeros-clause-crash : goal.returns-in_err-append_zeros-clause-crash
returns-in_err-append_zeros-clause-crash g c out left =
    let from = c.append_zeros.ensures.crash out left in
    inr (torn_from _ _ _ from.0 out (c.in_ok-sync.ensures.durable from.0 from.1
    ∙ c.sync.ensures.seen) from.2)

pub returns-in_err-sync-2-clause-crash : goal.returns-in_err-sync-2-clause-crash
returns-in_err-sync-2-clause-crash g c out left =
    let from = c.append_zeros.ensures.crash out (c.sync-2.ensures.crash out left) in
    inr (torn_from _ _ _ from.0 out (c.in_ok-sync.ensures.durable from.0 from.1
    ∙ c.sync.ensures.seen) from.2)

pub returns-clause-crash : goal.returns-clause-crash
returns-clause-crash g c out left =
    let from = c.append_zeros.ensures.crash out (c.sync-2.ensures.crash out left) in
    inr (torn_from _ _ _ from.0 out (c.in_ok-sync.ensures.durable from.0 from.1
    ∙ c.sync.ensures.seen) from.2)
