use Rattle.std.proofs.Common.{sym, subst, ℕ, List, [], ◌∷◌, ◌++◌, false}
use Rattle.scripts.specs.StoreSteps.{LineSteps}
use Rattle.scripts.proofs.Stepping.{refused_steps, empty_steps}
use Rattle.scripts.proofs.line_store.replies.refuse_line.Goals as goal

pub returns-then-is_empty : goal.returns-then-is_empty
returns-then-is_empty c state =
    empty_steps state c.args.line.now (sym c.if-is_empty.ensures)

pub returns : goal.returns
returns c state =
    subst (λ (t : List ℕ). LineSteps state c.args.line.now (t ++ 10 ∷ []) false state)
    (sym c.refusal.ensures)
    (refused_steps state c.args.line.now (sym c.if-is_empty.ensures))
