use Rattle.std.proofs.Common.{◌∙◌, ap, ℕ, List, ◌++◌, []}
use Rattle.std.specs.Prelude.{IsTrue}
use Rattle.journal.specs.Groups.{added}
use Rattle.line_loop.proofs.JournalLines.{has_lines, lines_of-added, finds_either}
use Rattle.line_loop.proofs.logs.journal_log.JournalLogLineLog.commit.Goals as goal

pub returns-in-Ok-clause-ok : goal.returns-in-Ok-clause-ok
returns-in-Ok-clause-ok g c kept waiting has =
    let calm : IsTrue (g.D.Log.is_clean c.commit.new.self.log) =
    rw c.commit.ensures.calm has.reads in
    has_lines _ _ _ _ _ _ _ (added has.groups waiting) (kept ++ waiting) [] calm
    (c.in-Ok.ensures.ok c.args.self.now.first has.groups waiting has.reads has.has has.each
    has.waits)
    (lines_of-added has.groups waiting ∙ ap (λ (ls : List (List ℕ)). ls ++ waiting) has.is)
    tt c.in-Ok.ensures.empty

pub returns-in-Ok-clause-crash : goal.returns-in-Ok-clause-crash
returns-in-Ok-clause-crash g c kept waiting has =
    finds_either _ has
    (c.commit.ensures.crash c.args.self.now.first has.groups waiting has.reads has.has has.each
    has.waits)

pub returns-in-Err-clause-crash : goal.returns-in-Err-clause-crash
returns-in-Err-clause-crash g c kept waiting has =
    finds_either _ has
    (c.commit.ensures.crash c.args.self.now.first has.groups waiting has.reads has.has has.each
    has.waits)
