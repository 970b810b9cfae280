use Rattle.std.proofs.Common.{◌∙◌}
use Rattle.std.specs.Prelude.{IsTrue}
use Rattle.line_loop.proofs.JournalLines.{has_lines, finds_only}
use Rattle.line_loop.proofs.logs.journal_log.JournalLogLineLog.make_room.Goals as goal

-- the first growth failed
pub returns-in_err-make_larger-clause-crash : goal.returns-in_err-make_larger-clause-crash
returns-in_err-make_larger-clause-crash g c kept waiting has =
    finds_only _ has.groups kept _ has.is
    (c.make_larger.ensures.crash c.args.self.now.first has.groups has.reads has.has)

-- the second one failed
pub returns-in_err-make_larger-2-clause-crash : goal.returns-in_err-make_larger-2-clause-crash
returns-in_err-make_larger-2-clause-crash g c kept waiting has =
    let calm : IsTrue (g.D.Log.is_clean c.make_larger.new.journal.log) =
    rw c.make_larger.ensures.calm has.reads in
    finds_only _ has.groups kept _ has.is
    (c.make_larger-2.ensures.crash c.args.self.now.first has.groups calm
    (c.in_ok-make_larger.ensures.ok c.args.self.now.first has.groups has.reads has.has))

pub returns-clause-crash : goal.returns-clause-crash
returns-clause-crash g c kept waiting has =
    let calm : IsTrue (g.D.Log.is_clean c.make_larger.new.journal.log) =
    rw c.make_larger.ensures.calm has.reads in
    finds_only _ has.groups kept _ has.is
    (c.make_larger-2.ensures.crash c.args.self.now.first has.groups calm
    (c.in_ok-make_larger.ensures.ok c.args.self.now.first has.groups has.reads has.has))

-- what it has is as before
pub returns-clause-ok : goal.returns-clause-ok
returns-clause-ok g c kept waiting has =
    let calm : IsTrue (g.D.Log.is_clean c.make_larger.new.journal.log) =
    rw c.make_larger.ensures.calm has.reads in
    let calm_too : IsTrue (g.D.Log.is_clean c.make_larger-2.new.journal.log) =
    rw c.make_larger-2.ensures.calm calm in
    has_lines _ _ _ _ _ _ _ has.groups kept waiting calm_too
    (c.in_ok-make_larger-2.ensures.ok c.args.self.now.first has.groups calm
    (c.in_ok-make_larger.ensures.ok c.args.self.now.first has.groups has.reads has.has)) has.is
    has.each
    (c.make_larger-2.ensures.waits ∙ c.make_larger.ensures.waits ∙ has.waits)
