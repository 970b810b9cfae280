use Rattle.std.proofs.Common.{◌∙◌, refl}
use Rattle.journal.proofs.Growth.{torn_same}
use Rattle.journal.proofs.Pieces.{follows_same, torn_of, holds_of, follows_of}
use Rattle.journal.proofs.journal_file.growing.append_piece.Goals as goal

pub returns-in_err-zeros-clause-torn : goal.returns-in_err-zeros-clause-torn
returns-in_err-zeros-clause-torn g c = torn_same _ _ _ _ refl

pub returns-in_err-zeros-clause-crash : goal.returns-in_err-zeros-clause-crash
returns-in_err-zeros-clause-crash g c = follows_same _ _ _

pub returns-in_err-append-clause-torn : goal.returns-in_err-append-clause-torn
returns-in_err-append-clause-torn g c =
    torn_of _ _ _ _ c.deref.result.now (c.deref.ensures.value ∙ c.in_ok-zeros.ensures)
    c.append.ensures.torn

pub returns-in_err-append-clause-crash : goal.returns-in_err-append-clause-crash
returns-in_err-append-clause-crash g c =
    follows_of _ _ _ _ c.deref.result.now (c.deref.ensures.value ∙ c.in_ok-zeros.ensures)
    c.append.ensures.crash

pub returns-clause-torn : goal.returns-clause-torn
returns-clause-torn g c =
    torn_of _ _ _ _ c.deref.result.now (c.deref.ensures.value ∙ c.in_ok-zeros.ensures)
    c.append.ensures.torn

pub returns-clause-holds : goal.returns-clause-holds
returns-clause-holds g c some =
    holds_of _ _ _ c.deref.result.now (c.deref.ensures.value ∙ c.in_ok-zeros.ensures) some
    c.in_ok-append.ensures.holds

pub returns-clause-crash : goal.returns-clause-crash
returns-clause-crash g c =
    follows_of _ _ _ _ c.deref.result.now (c.deref.ensures.value ∙ c.in_ok-zeros.ensures)
    c.append.ensures.crash
