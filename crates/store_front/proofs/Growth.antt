-- A request that was answered is its step, and a history with its entry more is legal.
use Rattle.meta_types.specs.declared.reply.Reply.TheVariants as P
use Rattle.std.proofs.Common.{inl, inr, add-zero, rules, ◌<◌, ◌+◌, ◌⊎◌, ◌≢◌, ◌≡◌, ℕ, List, [], ◌∷◌, ◌++◌, refl, sym, ap, ◌∙◌, subst}
use Rattle.std.specs.Prelude.{Bool, true, false, IsTrue, Option, Some, None, Result, Ok, Err, IsOk, IfErr, is_some, if◌then◌else◌}
use Rattle.std.specs.Option.{option_map_or}
use Rattle.meta_types.specs.Rows.{State}
use Rattle.meta_types.specs.Ops.{least_fault}
use Rattle.meta_types.specs.Requests.{outcome, outcome as asked_outcome}
use Rattle.meta_types.specs.Steps.{Answer, answered, refused, Event, requested}
use Rattle.meta_types.specs.Histories.{Step, Entry, failed_in, IsLegal}
use Rattle.meta_types.specs.declared.request.Request.{Request}
use Rattle.meta_types.specs.declared.reply.Reply.{Reply}
use Rattle.meta_types.specs.declared.fault.Fault.{Fault}
use Rattle.meta_types.specs.declared.fault.Fault.TheVariants.{InvalidArgument, NotFound, AlreadyExists, FailedPrecondition, BadLine, TooLong, OutOfMemory, NoWorker, BackendFailed, ReadFailed, WriteFailed, Mismatch}
use Rattle.request_core.specs.Follows.{Store, Answers, Follows, Fails}
use Rattle.store_front.specs.KeptAnswers.{kept_reply, Takes, log_after, reply_failures}
use Rattle.store_front.specs.Parts.{AreOpened}
use Rattle.std.proofs.lemmas.List.Elements.{All-append}

-- the step of a request whose outcome is refused
refused_so : (old : State) (request : Request) (fault : Fault) (new : State)
    → least_fault (outcome old request) ≡ Some fault → new ≡ old
    → Takes old (requested request) (Some (refused fault)) new
refused_so old request fault new least same = (
  refl,
  ap (λ (o : Option Fault). option_map_or refused o (answered (outcome old request).reply)) (sym least),
  same ∙ ap (λ (o : Option Fault). if is_some o then old else (outcome old request).after) (sym least),
)

followed : (old : Store) (request : Request) (result : Result Reply Fault) (new : Store)
    → Follows old (outcome old.state request) result new
    → Takes old.state (requested request) (kept_reply result) new.state
followed old request (Ok reply) new h = (
  refl,
  ap answered h.1 ∙ ap (λ (o : Option Fault). option_map_or refused o (answered (outcome old.state request).reply)) (sym h.0),
  ap (λ (s : Store). s.state) h.2 ∙ ap (λ (o : Option Fault). if is_some o then old.state else (outcome old.state request).after) (sym h.0),
)
followed old request (Err InvalidArgument) new h = refused_so old.state request InvalidArgument new.state h.0 (ap (λ (s : Store). s.state) h.1)
followed old request (Err NotFound) new h = refused_so old.state request NotFound new.state h.0 (ap (λ (s : Store). s.state) h.1)
followed old request (Err AlreadyExists) new h = refused_so old.state request AlreadyExists new.state h.0 (ap (λ (s : Store). s.state) h.1)
followed old request (Err FailedPrecondition) new h = refused_so old.state request FailedPrecondition new.state h.0 (ap (λ (s : Store). s.state) h.1)
followed old request (Err OutOfMemory) new h = ap (λ (s : Store). s.state) h.1
followed old request (Err BackendFailed) new h = ap (λ (s : Store). s.state) h.1
followed old request (Err BadLine) new h = absurd h.0
followed old request (Err TooLong) new h = absurd h.0
followed old request (Err NoWorker) new h = absurd h.0
followed old request (Err ReadFailed) new h = absurd h.0
followed old request (Err WriteFailed) new h = absurd h.0
followed old request (Err (Mismatch place)) new h = absurd h.0

-- what `apply` answers is the step
pub takes : (old : Store) (request : Request) (result : Result Reply Fault) (new : Store)
    → Answers old request result new
    → Takes old.state (requested request) (kept_reply result) new.state
unfolding Answers
takes old request result new h = followed old request result new h

-- a legal history with one step more is legal
pub legal_grows : (base mid : State) (log : List Entry) (entry : Entry) (new : State)
    → IsLegal base log mid → Step mid entry.event (failed_in entry.answer) entry.answer new
    → IsLegal base (log ++ entry ∷ []) new
legal_grows base mid [] entry new h s = (new, subst (λ (b : State). Step b entry.event (failed_in entry.answer) entry.answer new) h s, refl)
legal_grows base mid (first ∷ log) entry new h s = (h.0, h.1, legal_grows h.0 mid log entry new h.2 s)

-- so is the log after an event
pub legal_after : (base old : State) (log : List Entry) (number : ℕ) (event : Event) (kept : Option Answer) (new : State) → IsLegal base log old → Takes old event kept new → IsLegal base (log_after log number event kept) new
legal_after base old log number event None new h t = subst (IsLegal base log) (sym t) h
legal_after base old log number event (Some answer) new h t = legal_grows base old log (record { session = number; event = event; answer = answer }) new h t

-- what is answered where the copy of a reply may be refused is the step, or nothing happened
pub step_of : (old : Store) (request : Request) (outcome result : Result Reply Fault) (new : Store) → Answers old request outcome new → (outcome ≡ Ok P.Done) ⊎ (new.state ≡ old.state)
    → (result ≡ outcome) ⊎ ((result ≡ Err OutOfMemory) × IsOk outcome × (outcome ≢ Ok P.Done))
    → Takes old.state (requested request) (kept_reply result) new.state
step_of old request outcome result new h (quiet) (inl same) = subst (λ (r : Result Reply Fault). Takes old.state (requested request) (kept_reply r) new.state) (sym same) (takes old request outcome new h)
step_of old request outcome result new h (inl done) (inr lost) = absurd (lost.2 done)
step_of old request outcome result new h (inr quiet) (inr lost) = subst (λ (r : Result Reply Fault). Takes old.state (requested request) (kept_reply r) new.state) (sym lost.0) quiet

-- the entries after an event are of sessions that were opened
pub opened_after : (opened number : ℕ) (log : List Entry) (event : Event) (kept : Option Answer)
    → AreOpened opened log → number < opened → AreOpened opened (log_after log number event kept)
opened_after opened number log event None all here = all
opened_after opened number log event (Some answer) all here =
    All-append (λ (x : Entry). x.session < opened) log (record { session = number; event = event; answer = answer } ∷ []) all (search rules)

-- ---- refusals, and failures of the device

pub fails : (old : Store) (request : Request) (result : Result Reply Fault) (new : Store)
    → Answers old request result new
    → IfErr result (λ f. Fails f (least_fault (outcome old.state request)))
unfolding Answers
fails old request (Ok reply) new h = tt
fails old request (Err fault) new h = h.0

-- what is answered is a fault that applies, or out of memory
pub fails_of : (old : Store) (request : Request) (outcome result : Result Reply Fault) (new : Store) → Answers old request outcome new
    → (result ≡ outcome) ⊎ ((result ≡ Err OutOfMemory) × IsOk outcome × (outcome ≢ Ok P.Done))
    → IfErr result (λ f. Fails f (least_fault (asked_outcome old.state request)))
fails_of old request outcome result new h (inl same) = subst (λ (r : Result Reply Fault). IfErr r (λ f. Fails f (least_fault (asked_outcome old.state request)))) (sym same) (fails old request outcome new h)
fails_of old request outcome result new h (inr lost) = subst (λ (r : Result Reply Fault). IfErr r (λ f. Fails f (least_fault (asked_outcome old.state request)))) (sym lost.0) tt

counted : (old : Store) (request : Request) (result : Result Reply Fault) (new : Store)
    → Follows old (outcome old.state request) result new
    → new.failures ≡ old.failures + reply_failures result
counted old request (Ok reply) new h = ap (λ (s : Store). s.failures) h.2 ∙ sym (add-zero old.failures)
counted old request (Err InvalidArgument) new h = ap (λ (s : Store). s.failures) h.1 ∙ sym (add-zero old.failures)
counted old request (Err NotFound) new h = ap (λ (s : Store). s.failures) h.1 ∙ sym (add-zero old.failures)
counted old request (Err AlreadyExists) new h = ap (λ (s : Store). s.failures) h.1 ∙ sym (add-zero old.failures)
counted old request (Err FailedPrecondition) new h = ap (λ (s : Store). s.failures) h.1 ∙ sym (add-zero old.failures)
counted old request (Err OutOfMemory) new h = ap (λ (s : Store). s.failures) h.1 ∙ sym (add-zero old.failures)
counted old request (Err BackendFailed) new h = ap (λ (s : Store). s.failures) h.1
counted old request (Err BadLine) new h = absurd h.0
counted old request (Err TooLong) new h = absurd h.0
counted old request (Err NoWorker) new h = absurd h.0
counted old request (Err ReadFailed) new h = absurd h.0
counted old request (Err WriteFailed) new h = absurd h.0
counted old request (Err (Mismatch place)) new h = absurd h.0

pub counts : (old : Store) (request : Request) (result : Result Reply Fault) (new : Store)
    → Answers old request result new → new.failures ≡ old.failures + reply_failures result
unfolding Answers
counts old request result new h = counted old request result new h

none_failed : (outcome : Result Reply Fault) → IsOk outcome → reply_failures outcome ≡ 0
none_failed (Ok reply) h = refl
none_failed (Err fault) h = absurd cc

-- the device failed once where the answer says so, and else not
pub failures_of : (old : Store) (request : Request) (outcome result : Result Reply Fault) (new : Store) → Answers old request outcome new
    → (result ≡ outcome) ⊎ ((result ≡ Err OutOfMemory) × IsOk outcome × (outcome ≢ Ok P.Done))
    → new.failures ≡ old.failures + reply_failures result
failures_of old request outcome result new h (inl same) = counts old request outcome new h ∙ ap (λ (r : Result Reply Fault). old.failures + reply_failures r) (sym same)
failures_of old request outcome result new h (inr lost) =
    counts old request outcome new h ∙ ap (λ (n : ℕ). old.failures + n) (none_failed outcome lost.1 ∙ ap reply_failures (sym lost.0))

-- ---- where nothing is kept

-- of a store that keeps nothing, what holds where it keeps one isn't asked
pub not_kept : (X : Type 0) (read kept : Bool) → read ≡ false → read ≡ kept → IsTrue kept → X
not_kept X read kept none is some = absurd cc
