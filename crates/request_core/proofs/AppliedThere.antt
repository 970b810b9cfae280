-- A reply of what is done or held, as it is passed on.
use Rattle.std.proofs.Common.{◌≡◌, ◌∙◌, Bool, true, false, Option, Some, None, ap, refl, sym, true≢false}
use Rattle.std.specs.Prelude.{is_some, is_none, Result, Ok, Err}
use Rattle.std.specs.Result.{IsErrAnd}
use Rattle.meta_types.specs.declared.fault.Fault.{Fault}
use Rattle.meta_types.specs.declared.fault.Fault.TheVariants.{InvalidArgument, NotFound, AlreadyExists, FailedPrecondition, BadLine, TooLong, OutOfMemory, NoWorker, BackendFailed, ReadFailed, WriteFailed, Mismatch}
use Rattle.meta_types.specs.declared.reply.Reply.{Reply}
use Rattle.request_core.specs.declared.there.Applied.{Applied}
use Rattle.meta_types.specs.Ops.{least_fault}
use Rattle.meta_types.specs.Requests.{outcome}
use Rattle.meta_types.specs.declared.request.Request.{Request}
use Rattle.request_core.specs.Follows.{Store, Answers}
use Rattle.request_core.specs.Foreseen.{reply_of}
use Rattle.request_core.specs.ThereFault.{says_there}

-- what isn't none is given
pub given : {X : Type 0} (there : Option X) → is_none there ≡ false → is_some there ≡ true
given None h = absurd cc
given (Some x) h = refl

-- a fault is passed on as it is
pub passed_reply : (r : Result Applied Fault) (fault : Fault) → IsErrAnd r (λ other. other ≡ fault)
    → ◌≡◌ {A = Result Reply Fault} (reply_of r) (Err fault)
passed_reply (Ok applied) fault same = absurd same
passed_reply (Err other) fault same = ap (λ (f : Fault). Err f) same

-- the fault that says it
pub says_is : (fault : Fault) → says_there fault ≡ true → fault ≡ AlreadyExists
says_is InvalidArgument h = absurd cc
says_is NotFound h = absurd cc
says_is AlreadyExists h = refl
says_is FailedPrecondition h = absurd cc
says_is OutOfMemory h = absurd cc
says_is BackendFailed h = absurd cc
says_is BadLine h = absurd cc
says_is TooLong h = absurd cc
says_is NoWorker h = absurd cc
says_is ReadFailed h = absurd cc
says_is WriteFailed h = absurd cc
says_is (Mismatch place) h = absurd cc

-- another says nothing of it
pub says_not : {X : Type 0} (fault : Fault) (said : Bool) → said ≡ says_there fault
    → said ≡ false → fault ≡ AlreadyExists → X
says_not fault said e h is = absurd (true≢false (sym (e ∙ ap says_there is) ∙ h))

-- a request that is refused by it leaves the store as it was
pub is_refused_there : (old new : Store) (request : Request)
    → Answers old request (Err AlreadyExists) new
    → least_fault (outcome new.state request) ≡ Some AlreadyExists
unfolding Answers
is_refused_there old new request a =
    ap (λ (s : Store). least_fault (outcome s.state request)) a.1 ∙ a.0
