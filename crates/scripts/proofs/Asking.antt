-- On the answer to a question.
use Rattle.std.proofs.Common.{◌≡◌, ◌∙◌, refl, sym, ap, subst, Bool, true, false, Option, Some, None, Result, Ok, Err, inl, inr, ℤ}
use Rattle.std.specs.Prelude.{IfOk, is_some, ◌&&◌}
use Rattle.std.specs.Result.{IfErr}
use Rattle.meta_types.specs.Text.{Text, is_short_name}
use Rattle.meta_types.specs.Time.{instant_of}
use Rattle.meta_types.specs.Faults.{unless, Refuses}
use Rattle.meta_types.specs.Rows.{State}
use Rattle.meta_types.specs.Steps.{refused}
use Rattle.meta_types.specs.Explanations.{object_of, is_asked, explain_fault, question_fault, IsExplanation}
use Rattle.meta_types.specs.Impacts.{removed, impact_fault, impact_question_fault, Impact, IsImpact}
use Rattle.meta_types.specs.Questions.{QuestionAnswer, explains, foresees, of_event, of_question}
use Rattle.meta_types.specs.declared.fault.Fault.{Fault}
use Rattle.meta_types.specs.declared.fault.Fault.TheVariants.{InvalidArgument}
use Rattle.meta_types.specs.declared.object.Object.{Object}
use Rattle.meta_types.specs.declared.explanation.Explanation.{Explanation}
use Rattle.request_line.specs.declared.command.Command.{Command}
use Rattle.request_line.specs.declared.command.Command.TheVariants as A
use Rattle.reply_line.specs.Explained.{told_of}
use Rattle.scripts.specs.LineSteps.{supplied_answer, question_step, command_step, IsTrueOf}
use Rattle.scripts.specs.Served.{IsServed, IsRefused}

-- a text that is allowed
pub allowed : (test : Bool) (fault : Fault) → unless test fault ≡ None → test ≡ true
allowed true fault e = refl
allowed false fault e = absurd cc

no_second : (a c : Bool) → (a && false && c) ≡ false
no_second true c = refl
no_second false c = refl

no_third : (a b : Bool) → (a && b && false) ≡ false
no_third true true = refl
no_third true false = refl
no_third false true = refl
no_third false false = refl

-- ---- any question

-- the request is a question: this fault refuses it, and its texts are judged first
pub record IsQuestion (old : State) (command : Command) (least : Option Fault)
    (ns kind name at : Text) : Type 0 where
  pub step : (given : QuestionAnswer) → command_step old given command
      ≡ question_step old given least
  pub judged : (is_short_name ns && is_some (object_of kind name) && is_some (instant_of at))
      ≡ false → least ≡ Some InvalidArgument

module _ (old : State) (command : Command) (least : Option Fault) (ns kind name at : Text)
    (q : IsQuestion old command least ns kind name at) where
  -- the fault of the question
  is_fault : (fault : Fault) → least ≡ Some fault → IsRefused old command fault old
  is_fault fault e =
      inr (inr (
        tt,
        supplied_answer None,
        q.step (supplied_answer None) ∙ ap (question_step old (supplied_answer None)) e,
      ))

  -- a text couldn't be read
  by_text : (test : Bool) → (test ≡ false → least ≡ Some InvalidArgument) → (fault : Fault)
      → Refuses {X = Object} (Err fault) (unless test InvalidArgument)
      → IsRefused old command fault old
  by_text true bad fault r = inl (r, refl)
  by_text false bad fault r =
      subst (λ (f : Fault). IsRefused old command f old) (sym r)
      (is_fault InvalidArgument (bad refl))

  pub no_moment : instant_of at ≡ None → IsRefused old command InvalidArgument old
  no_moment e =
      is_fault InvalidArgument
      (q.judged (rw e (no_third (is_short_name ns) (is_some (object_of kind name)))))

  pub no_namespace : (fault : Fault)
      → Refuses {X = Object} (Err fault) (unless (is_short_name ns) InvalidArgument)
      → IsRefused old command fault old
  no_namespace fault r = by_text (is_short_name ns) (λ e. q.judged (rw e refl)) fault r

  pub no_object : (fault : Fault)
      → Refuses {X = Object} (Err fault) (unless (is_some (object_of kind name)) InvalidArgument)
      → IsRefused old command fault old
  no_object fault r =
      by_text (is_some (object_of kind name))
      (λ e. q.judged (rw e (no_second (is_short_name ns) (is_some (instant_of at))))) fault r

  by_least : (found : Option Fault) → least ≡ found → (fault : Fault)
      → Refuses {X = Object} (Err fault) found → IsRefused old command fault old
  by_least None e fault r = inl (r, refl)
  by_least (Some found) e fault r =
      subst (λ (f : Fault). IsRefused old command f old) (sym r) (is_fault found e)

  -- all texts were read: what refuses the store's answer is the fault of the question
  module _ {X : Type 0} (call : Option Fault) (same : least ≡ call) where
    call_err : (result : Result X Fault) → Refuses result call
        → IfErr result (λ fault. IsRefused old command fault old)
    call_err (Ok x) r = tt
    call_err (Err fault) r = by_least call same fault r

    -- and its answer is the question's, where it is right
    call_ok : (of : X → QuestionAnswer) (P : X → Type 0)
        → ((x : X) → least ≡ None → P x → IsTrueOf old (Some command) (of_question (of x)))
        → (result : Result X Fault) → Refuses result call → IfOk result P
        → IfOk result (λ x. IsServed old command (of_question (of x)) old)
    call_ok of P right (Err fault) r p = tt
    call_ok of P right (Ok x) r p =
        let free = same ∙ r in (
          right x free p,
          of x,
          q.step (of x) ∙ ap (question_step old (of x)) free,
        )

-- ---- each question

module _ (old : State) (ns kind name at : Text) where
  pub explain_asks : IsQuestion old (A.Explain ns kind name at)
      (question_fault old.records ns kind name at) ns kind name at
  explain_asks = record { step = λ given. refl; judged = λ e. rw e refl }

  pub impact_asks : IsQuestion old (A.Impact ns kind name at)
      (impact_question_fault old ns kind name at) ns kind name at
  impact_asks = record { step = λ given. refl; judged = λ e. rw e refl }

  -- all texts were read
  module _ (object : Object) (moment : ℤ) (short : is_short_name ns ≡ true)
      (is_object : object_of kind name ≡ Some object)
      (is_moment : instant_of at ≡ Some moment) where
    explain_same : question_fault old.records ns kind name at ≡ explain_fault old.records ns object
    explain_same = rw (short, is_object, is_moment) refl

    impact_same : impact_question_fault old ns kind name at ≡ impact_fault old ns object
    impact_same = rw (short, is_object, is_moment) refl

    pub explain_ok : (result : Result Explanation Fault)
        → Refuses result (explain_fault old.records ns object)
        → IfOk result
        (λ e. IsExplanation old.records moment (is_asked ns object) e.kept e.path.items)
        → IfOk result
        (λ e. IsServed old (A.Explain ns kind name at) (of_question (explains (told_of e))) old)
    explain_ok result r right =
        call_ok old (A.Explain ns kind name at) (question_fault old.records ns kind name at)
        ns kind name at explain_asks (explain_fault old.records ns object) explain_same
        (λ (e : Explanation). explains (told_of e))
        (λ (e : Explanation).
        IsExplanation old.records moment (is_asked ns object) e.kept e.path.items)
        (λ e free p. record {
          free = free;
          object = object;
          is_object = is_object;
          moment = moment;
          is_moment = is_moment;
          is_explanation = p;
        }) result r right

    pub explain_err : (result : Result Explanation Fault)
        → Refuses result (explain_fault old.records ns object)
        → IfErr result (λ fault. IsRefused old (A.Explain ns kind name at) fault old)
    explain_err result r =
        call_err old (A.Explain ns kind name at) (question_fault old.records ns kind name at)
        ns kind name at explain_asks (explain_fault old.records ns object) explain_same result r

    pub impact_ok : (result : Result Impact Fault) → Refuses result (impact_fault old ns object)
        → IfOk result (λ impact. IsImpact old (removed old ns object).after moment impact)
        → IfOk result
        (λ impact. IsServed old (A.Impact ns kind name at) (of_question (foresees impact)) old)
    impact_ok result r goes =
        call_ok old (A.Impact ns kind name at) (impact_question_fault old ns kind name at)
        ns kind name at impact_asks (impact_fault old ns object) impact_same
        (λ (impact : Impact). foresees impact)
        (λ (impact : Impact). IsImpact old (removed old ns object).after moment impact)
        (λ impact free p. record {
          free = free;
          object = object;
          is_object = is_object;
          moment = moment;
          is_moment = is_moment;
          goes = p;
        }) result r goes

    pub impact_err : (result : Result Impact Fault) → Refuses result (impact_fault old ns object)
        → IfErr result (λ fault. IsRefused old (A.Impact ns kind name at) fault old)
    impact_err result r =
        call_err old (A.Impact ns kind name at) (impact_question_fault old ns kind name at)
        ns kind name at impact_asks (impact_fault old ns object) impact_same result r
