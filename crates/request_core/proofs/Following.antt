-- What follows for a call that answers a request.
use Rattle.std.proofs.Common.{◌≡◌, Option, None, refl, sym, ap, ◌∙◌, subst, ◌⊎◌, inl, inr}
use Rattle.std.specs.Prelude.{Result, Ok, Err}
use Rattle.meta_types.specs.Ops.{Outcome, least_fault}
use Rattle.meta_types.specs.Requests.{outcome}
use Rattle.meta_types.specs.Sound.{IsSound}
use Rattle.meta_types.specs.declared.reply.Reply.{Reply}
use Rattle.meta_types.specs.declared.reply.Reply.TheVariants.{Done}
use Rattle.meta_types.specs.declared.request.Request.{Request}
use Rattle.meta_types.specs.declared.fault.Fault.{Fault}
use Rattle.meta_types.specs.declared.fault.Fault.TheVariants.{InvalidArgument, NotFound, AlreadyExists, FailedPrecondition, BadLine, TooLong, OutOfMemory, NoWorker, BackendFailed, ReadFailed, WriteFailed, Mismatch}
use Rattle.request_core.proofs.EachRequest.{quiet}
use Rattle.request_core.specs.Follows.{Store, Follows, Answers, left_by, FollowsExactly, AnswersExactly, FailsExactly, Fails, plain}
use Rattle.request_core.specs.declared.refusal.Refusal.{Refusal}
use Rattle.request_core.specs.declared.refusal.Refusal.TheVariants.{Reading, By}

left_state : (f : Fault) (old : Store) → (left_by f old).state ≡ old.state
left_state InvalidArgument old = refl
left_state NotFound old = refl
left_state AlreadyExists old = refl
left_state FailedPrecondition old = refl
left_state OutOfMemory old = refl
left_state BackendFailed old = refl
left_state BadLine old = refl
left_state TooLong old = refl
left_state NoWorker old = refl
left_state ReadFailed old = refl
left_state WriteFailed old = refl
left_state (Mismatch place) old = refl

follows_quiet : (old : Store) (o : Outcome) (r : Result Reply Fault) (new : Store) → Follows old o r new → (o.reply ≡ Done) ⊎ (o.after ≡ old.state) → (r ≡ Ok Done) ⊎ (new.state ≡ old.state)
follows_quiet old o (Ok reply) new f (inl done) = inl (ap (λ (x : Reply). Ok x) (f.1 ∙ done))
follows_quiet old o (Ok reply) new f (inr same) = inr (ap (λ (s : Store). s.state) f.2 ∙ same)
follows_quiet old o (Err fault) new f q = inr (ap (λ (s : Store). s.state) f.1 ∙ left_state fault old)

follows_sound : (old : Store) (o : Outcome) (r : Result Reply Fault) (new : Store) → Follows old o r new → IsSound old.state → (least_fault o ≡ None → IsSound o.after) → IsSound new.state
follows_sound old o (Ok reply) new f sound keeps = subst IsSound (sym (ap (λ (s : Store). s.state) f.2)) (keeps f.0)
follows_sound old o (Err fault) new f sound keeps = subst IsSound (sym (ap (λ (s : Store). s.state) f.1 ∙ left_state fault old)) sound

-- it answers Done, or the state is as it was
pub answers_quiet : (old : Store) (request : Request) (r : Result Reply Fault) (new : Store) → Answers old request r new → (r ≡ Ok Done) ⊎ (new.state ≡ old.state)
unfolding Answers
answers_quiet old request r new a = follows_quiet old (outcome old.state request) r new a (quiet old.state request)

-- a sound state stays sound, where the request's own effect is sound
pub answers_sound : (old : Store) (request : Request) (r : Result Reply Fault) (new : Store) → Answers old request r new → IsSound old.state → (least_fault (outcome old.state request) ≡ None → IsSound (outcome old.state request).after) → IsSound new.state
unfolding Answers
answers_sound old request r new a sound keeps = follows_sound old (outcome old.state request) r new a sound keeps

plainly : (f : Fault) (least : Option Fault) → FailsExactly f least → Fails f least
plainly InvalidArgument least h = h
plainly NotFound least h = h
plainly AlreadyExists least h = h
plainly FailedPrecondition least h = h
plainly OutOfMemory least h = tt
plainly BackendFailed least h = h
plainly BadLine least h = h
plainly TooLong least h = h
plainly NoWorker least h = h
plainly ReadFailed least h = h
plainly WriteFailed least h = h
plainly (Mismatch place) least h = h

follows_plainly : (old : Store) (o : Outcome) (r : Result Reply Refusal) (new : Store) → FollowsExactly old o r new → Follows old o (plain r) new
follows_plainly old o (Ok reply) new f = f
follows_plainly old o (Err Reading) new f = (tt, f)
follows_plainly old o (Err (By fault)) new f = (plainly fault (least_fault o) f.0, f.1)

pub answers_plainly : (old : Store) (request : Request) (r : Result Reply Refusal) (new : Store) → AnswersExactly old request r new → Answers old request (plain r) new
unfolding Answers AnswersExactly
answers_plainly old request r new a = follows_plainly old (outcome old.state request) r new a

-- what follows the outcome of a request answers it
pub answers_exactly : (old : Store) (request asked : Request) (r : Result Reply Refusal)
    (new : Store) → request ≡ asked → FollowsExactly old (outcome old.state asked) r new
    → AnswersExactly old request r new
unfolding AnswersExactly
answers_exactly old request asked r new is f =
    subst (λ (x : Request). FollowsExactly old (outcome old.state x) r new) (sym is) f
