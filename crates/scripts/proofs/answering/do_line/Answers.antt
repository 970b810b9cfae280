use Rattle.std.proofs.Common.{◌≡◌, subst, false}
use Rattle.std.specs.Prelude.{IfOk, IfErr}
use Rattle.meta_types.specs.Rows.{State}
use Rattle.meta_types.specs.Steps.{refused}
use Rattle.meta_types.specs.Questions.{of_event}
use Rattle.scripts.specs.Changes.{may_change}
use Rattle.scripts.specs.LineAnswers.{line_answer_of}
use Rattle.scripts.specs.LineSteps.{IsLineAnswer}
use Rattle.scripts.proofs.answering.do_line.Goals as goal

-- the second reading begins with the store as it was
pub returns-clause-ok : goal.returns-clause-ok
returns-clause-ok g c =
    subst (λ (s : State). IfOk c.do_once.result (λ answer. IsLineAnswer s c.args.line.now
    (line_answer_of answer) c.do_once.new.locked.store.state)) c.in_default.ensures.none
    c.do_once.ensures.ok

pub returns-clause-err : goal.returns-clause-err
returns-clause-err g c =
    subst (λ (s : State). IfErr c.do_once.result (λ fault. IsLineAnswer s c.args.line.now
    (of_event (refused fault)) c.do_once.new.locked.store.state)) c.in_default.ensures.none
    c.do_once.ensures.err

pub returns-clause-still : goal.returns-clause-still
returns-clause-still g c =
    subst (λ (s : State). IfOk c.do_once.result (λ answer. may_change answer ≡ false
    → c.do_once.new.locked.store.state ≡ s)) c.in_default.ensures.none c.do_once.ensures.still
