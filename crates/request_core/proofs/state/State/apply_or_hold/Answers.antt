use Rattle.std.proofs.Common.{rules, subst, sym}
use Rattle.std.specs.Prelude.{Err}
use Rattle.meta_types.specs.declared.fault.Fault.{Fault}
use Rattle.meta_types.specs.declared.fault.Fault.TheVariants.{AlreadyExists}
use Rattle.request_core.specs.Follows.{Answers}
use Rattle.request_core.proofs.HoldsThere.{refusal_done, reply_done, there_done}
use Rattle.request_core.proofs.AppliedThere.{given, is_refused_there, passed_reply, says_is, says_not}
use Rattle.request_core.proofs.state.State.apply_or_hold.Goals as goal

-- the store is still as it was
pub hold_there-requires-clause-there : goal.hold_there-requires-clause-there
hold_there-requires-clause-there g c κs within =
    is_refused_there c.args.self.now c.apply.new.self c.args.request.now
    (subst (λ (f : Fault). Answers c.args.self.now c.args.request.now (Err f) c.apply.new.self)
    (says_is c.in-Err.fault (search rules)) c.in-Err.ensures.step)

-- the hold was refused
pub returns-in_err-reply-in-Err-clause-step : goal.returns-in_err-reply-in-Err-clause-step
returns-in_err-reply-in-Err-clause-step g c =
    rw (passed_reply c.from_residual.result c.in_err-reply-in-Err.field-0.0
    c.from_residual.ensures.1)
    (there_done c.args.self.now _ c.args.request.now c.args.there.now _ _
    (subst (λ (f : Fault). Answers c.args.self.now c.args.request.now (Err f) c.apply.new.self)
    (says_is c.in-Err.fault (search rules)) c.in-Err.ensures.step)
    (given c.args.there.now (search rules)) c.in_err-reply-in-Err.ensures.step).0

-- the request was done itself
pub returns-in-Ok-clause-step : goal.returns-in-Ok-clause-step
returns-in-Ok-clause-step g c =
    (reply_done c.args.self.now c.args.request.now c.args.there.now c.in-Ok.reply _
    c.in-Ok.ensures.step).0

pub returns-in-Ok-clause-there : goal.returns-in-Ok-clause-there
returns-in-Ok-clause-there g c =
    sym (reply_done c.args.self.now c.args.request.now c.args.there.now c.in-Ok.reply _
    c.in-Ok.ensures.step).1

-- its lease holds what was there
pub returns-in_ok-reply-in-Err-clause-step : goal.returns-in_ok-reply-in-Err-clause-step
returns-in_ok-reply-in-Err-clause-step g c =
    (there_done c.args.self.now _ c.args.request.now c.args.there.now _ _
    (subst (λ (f : Fault). Answers c.args.self.now c.args.request.now (Err f) c.apply.new.self)
    (says_is c.in-Err.fault (search rules)) c.in-Err.ensures.step)
    (given c.args.there.now (search rules)) c.in_ok-reply-in-Err.ensures.step).0

pub returns-in_ok-reply-in-Err-clause-there : goal.returns-in_ok-reply-in-Err-clause-there
returns-in_ok-reply-in-Err-clause-there g c =
    sym (there_done c.args.self.now _ c.args.request.now c.args.there.now _ _
    (subst (λ (f : Fault). Answers c.args.self.now c.args.request.now (Err f) c.apply.new.self)
    (says_is c.in-Err.fault (search rules)) c.in-Err.ensures.step)
    (given c.args.there.now (search rules)) c.in_ok-reply-in-Err.ensures.step).1

-- it was refused by another fault
pub returns-then-not-says_there-clause-step : goal.returns-then-not-says_there-clause-step
returns-then-not-says_there-clause-step g c =
    refusal_done c.args.self.now c.args.request.now c.args.there.now c.in-Err.fault
    c.apply.new.self (λ is. says_not c.in-Err.fault c.says_there.result c.says_there.ensures
    c.if-not-says_there.true is) c.in-Err.ensures.step
