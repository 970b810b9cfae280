use Rattle.std.proofs.Common.{sym, subst, ℕ, List, [], ◌∷◌, ◌++◌, false}
use Rattle.scripts.specs.StoreSteps.{LineSteps}
use Rattle.scripts.proofs.Stepping.{long_steps}
use Rattle.scripts.proofs.Letting.{let_may, still_may, let_steps}
use Rattle.scripts.proofs.line_store.LineStore.take.Goals as goal

-- a line that is too long
pub returns-then-line-gt-LINE_LIMIT-clause-ok : goal.returns-then-line-gt-LINE_LIMIT-clause-ok
returns-then-line-gt-LINE_LIMIT-clause-ok g c =
    subst (λ (t : List ℕ). LineSteps c.args.self.now c.args.line.now (t ++ 10 ∷ []) false
    c.args.self.now) (sym c.refusal.ensures)
    (long_steps c.args.self.now c.args.line.now c.if-line-gt-LINE_LIMIT.true)

pub returns-then-line-gt-LINE_LIMIT-clause-allowed
    : goal.returns-then-line-gt-LINE_LIMIT-clause-allowed
returns-then-line-gt-LINE_LIMIT-clause-allowed g c = still_may c.args.mode c.args.line.now

-- one that the mode doesn't let be done
pub returns-then-not-lets_line-clause-ok : goal.returns-then-not-lets_line-clause-ok
returns-then-not-lets_line-clause-ok g c = c.refuse_line.ensures c.args.self.now

pub returns-then-not-lets_line-clause-allowed : goal.returns-then-not-lets_line-clause-allowed
returns-then-not-lets_line-clause-allowed g c = still_may c.args.mode c.args.line.now

-- one that is done
pub returns-clause-ok : goal.returns-clause-ok
returns-clause-ok g c =
    rw c.logs.ensures
    (let_steps c.args.mode c.args.self.now _ c.args.line.now _ c.in_ok-executed.executed.changes
    (c.lets_line.ensures c.if-not-lets_line.false) c.in_ok-executed.ensures.ok)

pub returns-clause-allowed : goal.returns-clause-allowed
returns-clause-allowed g c =
    rw c.logs.ensures
    (let_may c.args.mode c.args.line.now c.in_ok-executed.executed.changes
    (c.lets_line.ensures c.if-not-lets_line.false))
