-- What is written for a script answers its lines, and nothing else does.
use Rattle.std.proofs.Common.{◌≡◌, ◌∙◌, refl, sym, ap, subst, ℕ, Bool, true, false, ℤ, List, [], ◌∷◌, ◌++◌, length, Option, Some, None, ◌⊎◌, inl, inr, arith, nat_lt}
use Rattle.std.specs.Prelude.{if◌then◌else◌, is_some, not, ◌||◌, option_map, drop}
use Rattle.std.specs.Option.{option_map_or}
use Rattle.meta_types.specs.Time.{instant_of}
use Rattle.meta_types.specs.Rows.{State, empty_store}
use Rattle.meta_types.specs.Backends.{no_objects}
use Rattle.meta_types.specs.Ops.{least_fault}
use Rattle.meta_types.specs.Requests.{outcome, removal_outcome}
use Rattle.meta_types.specs.Sound.{IsSound}
use Rattle.meta_types.specs.Steps.{Answer, answered, reported, refused, Event, requested, collect, remove_collect, collect_fault, remove_collect_fault}
use Rattle.meta_types.specs.Histories.{Step}
use Rattle.meta_types.specs.Explanations.{question_fault}
use Rattle.meta_types.specs.Impacts.{impact_question_fault}
use Rattle.meta_types.specs.Text.{Text}
use Rattle.meta_types.specs.Faults.{least_of}
use Rattle.meta_types.specs.Shown.{Shown, holds_there, request_done, takes_words, words_fault, shown_in}
use Rattle.meta_types.specs.Questions.{QuestionAnswer, explains, foresees, lists, LineAnswer, of_event, of_shown, of_question}
use Rattle.meta_types.specs.declared.reply.Reply.{Reply}
use Rattle.meta_types.specs.declared.request.Request.{Request}
use Rattle.meta_types.specs.declared.fault.Fault.{Fault}
use Rattle.meta_types.specs.declared.fault.Fault.TheVariants.{InvalidArgument, BadLine, TooLong, NoWorker}
use Rattle.meta_types.proofs.EachKind.{divides_all, tells_what_a_collection_would}
use Rattle.request_core.proofs.EachRequest.{step_sound as request_sound}
use Rattle.request_core.proofs.HistoriesSound.{event_sound, removal_sound}
use Rattle.request_line.specs.Lines.{command_in}
use Rattle.request_line.specs.declared.command.Command.{Command}
use Rattle.request_line.specs.declared.command.Command.TheVariants as A
use Rattle.request_core.proofs.EmptyStore.{empty_is_sound}
use Rattle.scripts.specs.EventSteps.{collection_report, event_step, collects, plans}
use Rattle.scripts.specs.LineSteps.{Supplied, out_of_memory, no_worker, gives, supplied_answer, event_for, line_step_of, question_step, done_with_words, words_step, command_step, line_answer, answer_step, line_step, IsLineAnswer, IsTrueOf, IsTrueAt}
use Rattle.scripts.specs.Lines.{short_request, asks_collection, with_line_feed, lines_of, whole_lines}
use Rattle.scripts.specs.Output.{Supplies, first_supplied, output_from, output_of, AreTrue, IsOutput, IsWholeOutput, IsBeginning}
use Rattle.scripts.specs.StoreSteps.{Answers}
use Rattle.scripts.specs.WholeScripts.{command_fault, line_fault, MayBeRefused, IsDone, IsAnswered, AnswersLine, AnswersLines, AnswersScript, AnswersWholeLines, BeginsAnswers}
use Rattle.scripts.specs.ScriptLaws.{WhatAnswersIsAnOutput, EachStoreIsSound}
use Rattle.reply_line.specs.Explained.{line_answer_text}
use Rattle.scripts.proofs.LineAnswers.{line_step-empty, line_step-answer, true_at, some_byte}
use Rattle.scripts.proofs.Outcomes.{these_collect, this_plans, each_event_has_this_step, no_event_has_another_step}

-- ---- the store stays sound

event_sound_at : (state : State) (event : Option Event) → IsSound state
    → IsSound (option_map_or (event_step state) event (refused InvalidArgument, state)).1
event_sound_at state None s = s
event_sound_at state (Some event) s =
    event_sound state event no_objects (event_step state event).0 (event_step state event).1 s
    (each_event_has_this_step state event)

-- where the line has no fault, the request that is done has none
no_wrong_word : (takes invalid missing there forbidden : Bool)
    → least_of (not takes || invalid) missing there forbidden ≡ None
    → least_of invalid missing there forbidden ≡ None
no_wrong_word true invalid missing there forbidden free = free
no_wrong_word false invalid missing there forbidden free = absurd cc

command_sound : (state : State) (given : QuestionAnswer) (command : Command) → IsSound state
    → IsSound (command_step state given command).1
command_sound state given (A.Request request) s = event_sound_at state (Some (requested request)) s
command_sound state given (A.Collect at dry) s =
    event_sound_at state (event_for (A.Collect at dry)) s
command_sound state given (A.Remove removal at) s =
    event_sound_at state (event_for (A.Remove removal at)) s
command_sound state given (A.Show request answer there) s =
    go (words_fault state request answer there) refl
  where
    go : (least : Option Fault) → words_fault state request answer there ≡ least
        → let step : LineAnswer × State =
        option_map_or (λ fault. (of_event (refused fault), state)) least
        (done_with_words state request answer there) in IsSound step.1
    go (Some fault) least = s
    go None free = request_sound state (request_done state request there) s
        (no_wrong_word (takes_words request answer there) _ _ _ _ free)
command_sound state given A.BackList s = s
command_sound state given (A.Explain ns kind name at) s = s
command_sound state given (A.Impact ns kind name at) s = s

line_sound : (state : State) (given : QuestionAnswer) (line : List ℕ) → IsSound state
    → IsSound (line_answer state given line).1
line_sound state given line s = go (nat_lt 65536 (length line)) (command_in line)
  where
    go : (long : Bool) (command : Option Command)
        → let step : LineAnswer × State =
        if long then (of_event (refused TooLong), state) else option_map_or
        (command_step state given) command (of_event (refused BadLine), state) in IsSound step.1
    go true command = s
    go false None = s
    go false (Some command) = command_sound state given command s

answer_sound : (state : State) (supplied : Option Supplied) (line : List ℕ) → IsSound state
    → IsSound (answer_step state supplied line).1
answer_sound state None line s = line_sound state (supplied_answer None) line s
answer_sound state (Some (gives given)) line s = line_sound state given line s
answer_sound state (Some out_of_memory) line s = s
answer_sound state (Some no_worker) line s = go (asks_collection (short_request line))
  where
    go : (asks : Bool) → let step : LineAnswer × State =
        if asks then (of_event (refused NoWorker), state) else line_answer state (supplied_answer None)
        line in IsSound step.1
    go true = s
    go false = line_sound state (supplied_answer None) line s

-- a line that isn't empty is answered
pub full_step : (state : State) (supplied : Option Supplied) (byte : ℕ) (line : List ℕ)
    → line_step state supplied
    (byte ∷ line)
    ≡ (
      with_line_feed (line_answer_text (answer_step state supplied (byte ∷ line)).0),
      (answer_step state supplied (byte ∷ line)).1,
    )
full_step state supplied byte line =
    let answer = answer_step state supplied (byte ∷ line) in
    line_step-answer state supplied (byte ∷ line) answer.0 answer.1 (some_byte (length (byte ∷ line)) (omega arith)) refl

pub step_sound : (state : State) (supplied : Option Supplied) (line : List ℕ) → IsSound state
    → IsSound (line_step state supplied line).1
unfolding line_step
step_sound state supplied [] s = s
step_sound state supplied (byte ∷ line) s = subst (λ (step : List ℕ × State). IsSound step.1) (sym (full_step state supplied byte line)) (answer_sound state supplied (byte ∷ line) s)

-- ---- the request is done

module _ (state : State) (line : List ℕ) (s : IsSound state) (short : nat_lt 65536 (length line) ≡ false) where
  asks : (command : Command) → command_in line ≡ Some command → short_request line ≡ Some command
  asks command is = rw (short, is) refl

  own : (command : Command) → command_in line ≡ Some command
      → line_fault state line ≡ command_fault state command
  own command is = rw (short, is) refl

  command_kept : (given : QuestionAnswer) (command : Command) → command_in line ≡ Some command
      → IsTrueOf state (Some command) (command_step state given command).0
      → IsAnswered state line (command_step state given command).0
      (command_step state given command).1
  command_kept given (A.Explain ns kind name at) is right =
      go given (question_fault state.records ns kind name at) refl right
    where
      go : (given : QuestionAnswer) (least : Option Fault)
          → question_fault state.records ns kind name at ≡ least
          → IsTrueOf state (Some (A.Explain ns kind name at)) (question_step state given least).0
          → IsAnswered state line (question_step state given least).0
          (question_step state given least).1
      go given (Some fault) least right = (refl, inl (own (A.Explain ns kind name at) is ∙ least))
      go (explains told) None free right = (
        A.Explain ns kind name at,
        asks (A.Explain ns kind name at) is,
        own
            (A.Explain ns kind name at) is ∙ free,
        (right, refl),
      )
      go (foresees impact) None free right = absurd right
      go (lists names) None free right = absurd right
  command_kept given (A.Impact ns kind name at) is right =
      go given (impact_question_fault state ns kind name at) refl right
    where
      go : (given : QuestionAnswer) (least : Option Fault)
          → impact_question_fault state ns kind name at ≡ least
          → IsTrueOf state (Some (A.Impact ns kind name at)) (question_step state given least).0
          → IsAnswered state line (question_step state given least).0
          (question_step state given least).1
      go given (Some fault) least right = (refl, inl (own (A.Impact ns kind name at) is ∙ least))
      go (foresees impact) None free right = (
        A.Impact ns kind name at,
        asks (A.Impact ns kind name at) is,
        own (A.Impact ns kind name at) is ∙ free,
        (right, refl),
      )
      go (explains told) None free right = absurd right
      go (lists names) None free right = absurd right
  command_kept given (A.Request request) is right = go (least_fault (outcome state request)) refl
    where
      go : (least : Option Fault) → least_fault (outcome state request) ≡ least
          → IsAnswered state line
          (of_event (option_map_or refused least (answered (outcome state request).reply)))
          (if is_some least then state else (outcome state request).after)
      go None free = (A.Request request, asks (A.Request request) is, own (A.Request request) is ∙ free, (refl, refl))
      go (Some fault) least = (refl, inl (own (A.Request request) is ∙ least))
  command_kept given (A.Show request answer there) is right =
      go (words_fault state request answer there) refl
    where
      shows : (shown : Option Shown)
          → shown_in (outcome state (request_done state request there)).after request
          (holds_there state request there) answer ≡ shown
          → words_fault state request answer there ≡ None
          → IsAnswered state line (option_map_or of_shown shown
          (of_event (answered (outcome state (request_done state request there)).reply)))
          (outcome state (request_done state request there)).after
      shows None e free = (
        A.Show request answer there,
        asks (A.Show request answer there) is,
        own (A.Show request answer there) is ∙ free,
        (e, refl, refl),
      )
      shows (Some shown) e free = (
        A.Show request answer there,
        asks (A.Show request answer there) is,
        own (A.Show request answer there) is ∙ free,
        (e, refl),
      )

      go : (least : Option Fault) → words_fault state request answer there ≡ least
          → let step : LineAnswer × State =
          option_map_or (λ fault. (of_event (refused fault), state)) least
          (done_with_words state request answer there) in IsAnswered state line step.0 step.1
      go (Some fault) least = (refl, inl (own (A.Show request answer there) is ∙ least))
      go None free =
          shows (shown_in (outcome state (request_done state request there)).after request
          (holds_there state request there) answer) refl free
  command_kept given A.BackList is right =
      (A.BackList, asks A.BackList is, own A.BackList is, (refl, refl))
  command_kept given (A.Collect at dry) is right = go (instant_of at) refl
    where
      after : (moment : ℤ) → instant_of at ≡ Some moment → (d : Bool)
          → command_in line ≡ Some (A.Collect at d) → (least : Option Fault)
          → collect_fault state.records 1 ≡ least
          → let step : Answer × State =
          option_map_or (λ fault. (refused fault, state)) least
          (if d then plans state moment else collects state moment) in IsAnswered state line
          (of_event step.0) step.1
      after moment read d command (Some fault) least = (
        refl,
        inl (own (A.Collect at d) command
            ∙ (rw read refl) ∙ least),
      )
      after moment read true command None free =
          let plans_so = this_plans state moment in
          let told = tells_what_a_collection_would state moment (collection_report state moment true) s plans_so in (
            A.Collect at true,
            asks (A.Collect at true) command,
            own (A.Collect at true) command
                ∙ (rw read refl) ∙ free,
            (moment, read, plans_so, refl, told.0, told.1),
          )
      after moment read false command None free = (
        A.Collect at false,
        asks (A.Collect at false) command,
        own (A.Collect at false) command
            ∙ (rw read refl) ∙ free,
        (
          moment,
          read,
          these_collect state moment,
          divides_all state
              moment _ _ s (these_collect state moment),
        ),
      )

      go : (read : Option ℤ) → instant_of at ≡ read
          → let step : Answer × State =
          option_map_or (event_step state) (option_map (λ moment. collect moment dry 1) read)
          (refused InvalidArgument, state) in IsAnswered state line (of_event step.0)
          step.1
      go None e = (refl, inl (own (A.Collect at dry) is ∙ (rw e refl)))
      go (Some moment) e = after moment e dry is (collect_fault state.records 1) refl
  command_kept given (A.Remove removal at) is right = go (instant_of at) refl
    where
      after : (moment : ℤ) → instant_of at ≡ Some moment → (least : Option Fault)
          → remove_collect_fault state removal 1 ≡ least
          → let step : Answer × State =
          option_map_or (λ fault. (refused fault, state)) least
          (collects (removal_outcome state removal).after moment) in IsAnswered state line
          (of_event step.0) step.1
      after moment read (Some fault) least = (refl, inl (own (A.Remove removal at) is ∙ (rw read refl) ∙ least))
      after moment read None free = (
        A.Remove removal at,
        asks (A.Remove removal at) is,
        own (A.Remove removal at) is ∙ (rw read refl) ∙ free,
        (
          moment,
          read,
          these_collect (removal_outcome state removal).after moment,
          divides_all (removal_outcome state removal).after moment _ _
              (removal_sound state removal s)
              (these_collect (removal_outcome state removal).after moment),
        ),
      )

      go : (read : Option ℤ) → instant_of at ≡ read
          → let step : Answer × State =
          option_map_or (event_step state)
          (option_map (λ moment. remove_collect removal moment 1) read)
          (refused InvalidArgument, state) in IsAnswered state line (of_event step.0)
          step.1
      go None e = (refl, inl (own (A.Remove removal at) is ∙ (rw e refl)))
      go (Some moment) e = after moment e (remove_collect_fault state removal 1) refl

-- ---- a line is answered

line_kept : (state : State) (given : QuestionAnswer) (line : List ℕ)
    → IsSound state → IsTrueOf state (short_request line) (line_answer state given line).0
    → IsAnswered state line (line_answer state given line).0
    (line_answer state given line).1
line_kept state given line s right =
    go (nat_lt 65536 (length line)) (command_in line) refl refl right
  where
    go : (long : Bool) (command : Option Command) → nat_lt 65536 (length line) ≡ long
        → command_in line ≡ command
        → let step : LineAnswer × State =
        if long then (of_event (refused TooLong), state) else option_map_or
        (command_step state given) command (of_event (refused BadLine), state)
        in let what : Option Command = if long then None else command
        in IsTrueOf state what step.0 → IsAnswered state line step.0 step.1
    go true command long is right = (refl, inl (rw long refl))
    go false None short is right = (refl, inl (rw (short, is) refl))
    go false (Some command) short is right =
        command_kept state line s short given command is right

answer_kept : (state : State) (supplied : Option Supplied) (line : List ℕ) → IsSound state
    → IsTrueOf state (short_request line) (answer_step state supplied line).0
    → IsAnswered state line (answer_step state supplied line).0
    (answer_step state supplied line).1
answer_kept state None line s right = line_kept state (supplied_answer None) line s right
answer_kept state (Some (gives given)) line s right = line_kept state given line s right
answer_kept state (Some out_of_memory) line s right = (refl, inr (inl refl))
answer_kept state (Some no_worker) line s right =
    go (asks_collection (short_request line)) refl right
  where
    go : (asks : Bool) → asks_collection (short_request line) ≡ asks
        → let step : LineAnswer × State =
        if asks then (of_event (refused NoWorker), state) else line_answer state (supplied_answer None) line
        in IsTrueOf state (short_request line) step.0 → IsAnswered state line step.0 step.1
    go true asks right = (refl, inr (inr (refl, asks)))
    go false asks right = line_kept state (supplied_answer None) line s right

step_kept : (state : State) (supplied : Option Supplied) (line : List ℕ) → IsSound state
    → IsTrueAt state supplied line
    → AnswersLine state line (line_step state supplied line).0 (line_step state supplied line).1
unfolding line_step
step_kept state supplied [] s right = (refl, refl)
step_kept state supplied (byte ∷ line) s right =
    subst (λ (step : List ℕ × State). AnswersLine state (byte ∷ line) step.0 step.1)
    (sym (full_step state supplied byte line)) (
      (answer_step state supplied (byte ∷ line)).0,
      refl,
      answer_kept state supplied (byte ∷ line) s right,
    )

-- ---- so is a script

lines_kept : (state : State) (supplies : Supplies) (lines : List (List ℕ)) → IsSound state
    → AreTrue state supplies lines
    → AnswersLines state lines (output_from state supplies lines)
lines_kept state supplies [] s right = refl
lines_kept state supplies (line ∷ lines) s right =
    let supplied = first_supplied supplies in
    let new = (line_step state supplied line).1 in (
      (line_step state supplied line).0,
      new,
      step_kept state supplied line s right.0,
      output_from new (drop 1 supplies) lines,
      refl,
      lines_kept new (drop 1 supplies) lines (step_sound state supplied line s) right.1,
    )

kept : (supplies : Supplies) (script bytes : List ℕ) → bytes ≡ output_of supplies script
    → AreTrue empty_store supplies (lines_of script) → AnswersScript script bytes
kept supplies script bytes is right =
    subst (AnswersLines empty_store (lines_of script)) (sym is)
    (lines_kept empty_store supplies (lines_of script) empty_is_sound right)

pub answers_script : (script bytes : List ℕ) → IsOutput script bytes → AnswersScript script bytes
answers_script script bytes out = kept out.0 script bytes out.1 out.2

pub answers_whole : (script bytes : List ℕ) → IsWholeOutput script bytes
    → AnswersWholeLines script bytes
answers_whole script bytes out = answers_script (whole_lines script) bytes out

pub begins_answers : (script bytes : List ℕ) → IsBeginning script bytes
    → BeginsAnswers script bytes
begins_answers script bytes begins =
    (begins.1, kept begins.0 script (bytes ++ begins.1) begins.2 begins.3)

-- ---- what answers a line is a step of it

read_short : (long : Bool) (found : Option Command) (command : Command)
    → (if long then None else found) ≡ Some command → (long ≡ false) × (found ≡ Some command)
read_short true found command e = absurd cc
read_short false found command e = (refl, e)

module _ (state : State) (fault : Fault) where
  moment_step : (event : ℤ → Event) (call : Option Fault) (read : Option ℤ)
      → ((moment : ℤ) → call ≡ Some fault
      → event_step state (event moment) ≡ (refused fault, state))
      → (if is_some read then call else Some InvalidArgument) ≡ Some fault
      → option_map_or (event_step state) (option_map event read) (refused InvalidArgument, state)
      ≡ (refused fault, state)
  moment_step event call None each own = let same : InvalidArgument ≡ fault = cc in
      (λ i. (refused (same i), state))
  moment_step event call (Some moment) each own = each moment own

  command_fault_step : (command : Command) → command_fault state command ≡ Some fault
      → command_step state (supplied_answer None) command ≡ (of_event (refused fault), state)
  command_fault_step (A.Request request) own = rw own refl
  command_fault_step (A.Show request answer there) own = rw own refl
  command_fault_step A.BackList own = absurd cc
  command_fault_step (A.Explain ns kind name at) own = rw own refl
  command_fault_step (A.Impact ns kind name at) own = rw own refl
  command_fault_step (A.Collect at dry) own =
      ap line_step_of
      (moment_step (λ moment. collect moment dry 1) (collect_fault state.records 1) (instant_of at)
      (λ moment e. rw e refl) own)
  command_fault_step (A.Remove removal at) own =
      ap line_step_of
      (moment_step (λ moment. remove_collect removal moment 1)
      (remove_collect_fault state removal 1) (instant_of at) (λ moment e. rw e refl) own)

  found_fault_step : (long : Bool) (found : Option Command)
      → (if long then Some TooLong else option_map_or (command_fault state) found (Some BadLine))
      ≡ Some fault
      → let step : LineAnswer × State =
      if long then (of_event (refused TooLong), state) else option_map_or
      (command_step state (supplied_answer None)) found (of_event (refused BadLine), state)
      in step ≡ (of_event (refused fault), state)
  found_fault_step true found own = let same : TooLong ≡ fault = cc in
      (λ i. (of_event (refused (same i)), state))
  found_fault_step false None own = let same : BadLine ≡ fault = cc in
      (λ i. (of_event (refused (same i)), state))
  found_fault_step false (Some command) own = command_fault_step command own

-- the line is refused
refused_step : (state : State) (line : List ℕ) (fault : Fault) (new : State) → new ≡ state
    → (line_fault state line ≡ Some fault) ⊎ MayBeRefused line fault
    → IsLineAnswer state line (of_event (refused fault)) new
refused_step state line fault new same why = elim why [
  | inl own ↦ (
    None,
    found_fault_step state fault (nat_lt 65536 (length line)) (command_in line) own
        ∙ (λ i. (of_event (refused fault), sym same i)),
    tt,
  )
  | inr may ↦ elim may [
    | inl memory ↦ (
      Some out_of_memory,
      (λ i. (of_event (refused (sym memory i)), sym same i)),
      tt,
    )
    | inr thread ↦ (
      Some no_worker,
      rw thread.1 (λ i. (of_event (refused (sym thread.0 i)), sym same i)),
      tt,
    )
  ]
]

module _ (state : State) (line : List ℕ) (new : State) where
  -- the line asks for an event, which gives this answer
  event_done : (command : Command) (event : Event) (answer : Answer)
      → answer_step state None line ≡ command_step state (supplied_answer None) command
      → command_step state (supplied_answer None) command ≡ line_step_of (event_step state event)
      → Step state event no_objects answer new
      → IsLineAnswer state line (of_event answer) new
  event_done command event answer whole is step =
      let s = no_event_has_another_step state event answer new step in (
        None,
        whole ∙ is ∙ (λ i. (of_event (sym s.0 i), sym s.1 i)),
        tt,
      )

  -- a request with words is done
  words_done : (request : Request) (answer there : Option Text) (told : LineAnswer)
      (shown : Option Shown) (reply : Reply) → nat_lt 65536 (length line) ≡ false
      → command_in line ≡ Some (A.Show request answer there)
      → words_fault state request answer there ≡ None
      → shown_in new request (holds_there state request there) answer ≡ shown
      → told ≡ option_map_or of_shown shown (of_event (answered reply))
      → reply ≡ (outcome state (request_done state request there)).reply
      → new ≡ (outcome state (request_done state request there)).after
      → IsLineAnswer state line told new
  words_done request answer there told shown reply short is free shows says same left =
      let whole : answer_step state None line ≡ words_step state request answer there
      = rw (short, is) refl in
      let step : words_step state request answer there
      ≡ done_with_words state request answer there = rw free refl in (
        None,
        whole ∙ step ∙ (λ i. (
          option_map_or of_shown
              (shown_in (sym left i) request (holds_there state request there) answer)
              (of_event (answered (sym same i))),
          sym left i,
        )) ∙ (λ i. (option_map_or of_shown (shows i) (of_event (answered reply)), new))
            ∙ (λ i. (sym says i, new)),
        subst (λ (a : LineAnswer). IsTrueOf state (short_request line) a) (sym says)
            (true_words shown reply),
      )
    where
      true_words : (shown : Option Shown) (reply : Reply) → IsTrueOf state (short_request line)
          (option_map_or of_shown shown (of_event (answered reply)))
      true_words None reply = tt
      true_words (Some shown) reply = tt

  -- what the line asks for is done
  done_step : (answer : LineAnswer) (command : Command) → short_request line ≡ Some command
      → nat_lt 65536 (length line) ≡ false → command_in line ≡ Some command
      → command_fault state command ≡ None → IsDone state command answer new
      → IsLineAnswer state line answer new
  done_step (of_event (answered reply)) (A.Request request) asks short is free done =
      let whole : answer_step state None line ≡ command_step state (supplied_answer None)
      (A.Request request)
      = rw (short, is) refl in
      let made = outcome state request in
      let step : command_step state (supplied_answer None) (A.Request request)
      ≡ (of_event (answered made.reply), made.after) = rw free refl in
      (None, whole ∙ step ∙ (λ i. (of_event (answered (sym done.0 i)), sym done.1 i)), tt)
  done_step (of_event (reported report)) (A.Collect at true) asks short is free done =
      event_done (A.Collect at true) (collect done.0 true 1) (reported report)
      (rw (short, is) refl) (rw done.1 refl) (rw done.1 at free, refl, done.2, done.3)
  done_step (of_event (reported report)) (A.Collect at false) asks short is free done =
      event_done (A.Collect at false) (collect done.0 false 1) (reported report)
      (rw (short, is) refl) (rw done.1 refl) (rw done.1 at free, done.2)
  done_step (of_event (reported report)) (A.Remove removal at) asks short is free done =
      event_done (A.Remove removal at) (remove_collect removal done.0 1) (reported report)
      (rw (short, is) refl) (rw done.1 refl) (rw done.1 at free, done.2)
  done_step (of_question (explains told)) (A.Explain ns kind name at) asks short is free done =
      let command = A.Explain ns kind name at in
      let whole : answer_step state (Some (gives (explains told))) line
      ≡ command_step state (explains told) command = rw (short, is) refl in
      let step : command_step state (explains told) command ≡ (of_question (explains told), state)
      = rw free refl in (
        Some (gives (explains told)),
        whole ∙ step ∙ (λ i. (of_question (explains told), sym done.1 i)),
        subst (λ (what : Option Command). IsTrueOf state what (of_question (explains told)))
            (sym asks) done.0,
      )
  done_step (of_question (foresees impact)) (A.Impact ns kind name at) asks short is free done =
      let command = A.Impact ns kind name at in
      let whole : answer_step state (Some (gives (foresees impact))) line
      ≡ command_step state (foresees impact) command = rw (short, is) refl in
      let step : command_step state (foresees impact) command
      ≡ (of_question (foresees impact), state)
      = rw free refl in (
        Some (gives (foresees impact)),
        whole ∙ step ∙ (λ i. (of_question (foresees impact), sym done.1 i)),
        subst (λ (what : Option Command). IsTrueOf state what (of_question (foresees impact)))
            (sym asks) done.0,
      )
  done_step (of_event (answered reply)) (A.Show request answer there) asks short is free done =
      words_done request answer there (of_event (answered reply)) None reply short is free done.0
      refl done.1 done.2
  done_step (of_shown shown) (A.Show request answer there) asks short is free done =
      words_done request answer there (of_shown shown) (Some shown) _ short is free done.0
      refl refl done.1
  done_step (of_question (lists names)) A.BackList asks short is free done =
      let whole : answer_step state None line ≡ command_step state (supplied_answer None) A.BackList
      = rw (short, is) refl in (
        None,
        whole ∙ (λ i. (of_question (lists (sym done.0 i)), sym done.1 i)),
        subst (λ (what : Option Command). IsTrueOf state what (of_question (lists names)))
            (sym asks) done.0,
      )
  done_step (of_event (answered reply)) A.BackList asks short is free done = absurd done
  done_step (of_event (reported report)) (A.Show request answer there) asks short is free done =
      absurd done
  done_step (of_event (reported report)) A.BackList asks short is free done = absurd done
  done_step (of_event (refused fault)) (A.Show request answer there) asks short is free done =
      absurd done
  done_step (of_event (refused fault)) A.BackList asks short is free done = absurd done
  done_step (of_shown shown) (A.Request request) asks short is free done = absurd done
  done_step (of_shown shown) (A.Collect at true) asks short is free done = absurd done
  done_step (of_shown shown) (A.Collect at false) asks short is free done = absurd done
  done_step (of_shown shown) (A.Remove removal at) asks short is free done = absurd done
  done_step (of_shown shown) (A.Explain ns kind name at) asks short is free done = absurd done
  done_step (of_shown shown) (A.Impact ns kind name at) asks short is free done = absurd done
  done_step (of_shown shown) A.BackList asks short is free done = absurd done
  done_step (of_question (explains told)) (A.Show request answer there) asks short is free done =
      absurd done
  done_step (of_question (explains told)) A.BackList asks short is free done = absurd done
  done_step (of_question (foresees impact)) (A.Show request answer there) asks short is free done =
      absurd done
  done_step (of_question (foresees impact)) A.BackList asks short is free done = absurd done
  done_step (of_question (lists names)) (A.Request request) asks short is free done = absurd done
  done_step (of_question (lists names)) (A.Show request answer there) asks short is free done =
      absurd done
  done_step (of_question (lists names)) (A.Collect at true) asks short is free done = absurd done
  done_step (of_question (lists names)) (A.Collect at false) asks short is free done = absurd done
  done_step (of_question (lists names)) (A.Remove removal at) asks short is free done = absurd done
  done_step (of_question (lists names)) (A.Explain ns kind name at) asks short is free done =
      absurd done
  done_step (of_question (lists names)) (A.Impact ns kind name at) asks short is free done =
      absurd done
  done_step (of_event (answered reply)) (A.Collect at true) asks short is free done = absurd done
  done_step (of_event (answered reply)) (A.Collect at false) asks short is free done = absurd done
  done_step (of_event (answered reply)) (A.Remove removal at) asks short is free done = absurd done
  done_step (of_event (answered reply)) (A.Explain ns kind name at) asks short is free done =
      absurd done
  done_step (of_event (answered reply)) (A.Impact ns kind name at) asks short is free done =
      absurd done
  done_step (of_event (reported report)) (A.Request request) asks short is free done = absurd done
  done_step (of_event (reported report)) (A.Explain ns kind name at) asks short is free done =
      absurd done
  done_step (of_event (reported report)) (A.Impact ns kind name at) asks short is free done =
      absurd done
  done_step (of_event (refused fault)) (A.Request request) asks short is free done = absurd done
  done_step (of_event (refused fault)) (A.Collect at true) asks short is free done = absurd done
  done_step (of_event (refused fault)) (A.Collect at false) asks short is free done = absurd done
  done_step (of_event (refused fault)) (A.Remove removal at) asks short is free done = absurd done
  done_step (of_event (refused fault)) (A.Explain ns kind name at) asks short is free done =
      absurd done
  done_step (of_event (refused fault)) (A.Impact ns kind name at) asks short is free done =
      absurd done
  done_step (of_question (explains told)) (A.Request request) asks short is free done = absurd done
  done_step (of_question (explains told)) (A.Collect at true) asks short is free done = absurd done
  done_step (of_question (explains told)) (A.Collect at false) asks short is free done =
      absurd done
  done_step (of_question (explains told)) (A.Remove removal at) asks short is free done =
      absurd done
  done_step (of_question (explains told)) (A.Impact ns kind name at) asks short is free done =
      absurd done
  done_step (of_question (foresees impact)) (A.Request request) asks short is free done =
      absurd done
  done_step (of_question (foresees impact)) (A.Collect at true) asks short is free done =
      absurd done
  done_step (of_question (foresees impact)) (A.Collect at false) asks short is free done =
      absurd done
  done_step (of_question (foresees impact)) (A.Remove removal at) asks short is free done =
      absurd done
  done_step (of_question (foresees impact)) (A.Explain ns kind name at) asks short is free done =
      absurd done

  -- the line has no fault
  full_done : (answer : LineAnswer) (command : Command) → short_request line ≡ Some command
      → line_fault state line ≡ None → IsDone state command answer new
      → IsLineAnswer state line answer new
  full_done answer command is free done =
      let read = read_short (nat_lt 65536 (length line)) (command_in line) command is in
      let own : line_fault state line ≡ command_fault state command = rw (read.0, read.1) refl in
      done_step answer command is read.0 read.1 (sym own ∙ free) done

-- the line is answered so
answer_made : (state : State) (line : List ℕ) (answer : LineAnswer) (new : State)
    → IsAnswered state line answer new → IsLineAnswer state line answer new
answer_made state line (of_event (refused fault)) new is =
    refused_step state line fault new is.0 is.1
answer_made state line (of_event (answered reply)) new is =
    full_done state line new (of_event (answered reply)) is.0 is.1 is.2 is.3
answer_made state line (of_event (reported report)) new is =
    full_done state line new (of_event (reported report)) is.0 is.1 is.2 is.3
answer_made state line (of_shown shown) new is =
    full_done state line new (of_shown shown) is.0 is.1 is.2 is.3
answer_made state line (of_question given) new is =
    full_done state line new (of_question given) is.0 is.1 is.2 is.3

step_made : (state : State) (line reply : List ℕ) (new : State) → AnswersLine state line reply new
    → Answers state line reply new
step_made state [] reply new is = (
  None,
  line_step-empty state None [] refl ∙ (λ i. (sym is.0 i, sym is.1 i)),
  tt,
)
step_made state (byte ∷ line) reply new is =
    let made = answer_made state (byte ∷ line) is.0 new is.2 in (
      made.0,
      line_step-answer state made.0 (byte ∷ line) is.0 new
          (some_byte (length (byte ∷ line)) (omega arith)) made.1
          ∙ (λ i. (sym is.1 i, new)),
      true_at state made.0 (byte ∷ line) is.0 new made.1 made.2,
    )

-- ---- so is what answers a script

lines_made : (state : State) (lines : List (List ℕ)) (written : List ℕ)
    → AnswersLines state lines written
    → (supplies : Supplies) × (written ≡ output_from state supplies lines)
    × AreTrue state supplies lines
lines_made state [] written is = ([], is, tt)
lines_made state (line ∷ lines) written is =
    let made = step_made state line is.0 is.1 is.2 in
    let more = lines_made is.1 lines is.3 is.5 in
    let step = made.1 in (
      made.0 ∷ more.0,
      is.4 ∙ ap (λ rest. is.0 ++ rest) more.1
          ∙ ap (λ (p : List ℕ × State). p.0 ++ output_from p.1 more.0 lines) (sym step),
      (
        made.2,
        subst (λ (now : State). AreTrue now more.0 lines)
            (ap (λ (p : List ℕ × State). p.1) (sym step)) more.2,
      ),
    )

-- bytes answer a script exactly if they are a computed output of it
pub what_answers_is_an_output : WhatAnswersIsAnOutput
what_answers_is_an_output script written = (
  (λ is. lines_made empty_store (lines_of script) written is),
  (λ out. answers_script script written out),
)

-- the empty store is sound, and the answer to a line leaves a sound store
pub each_store_is_sound : EachStoreIsSound
each_store_is_sound = (
  empty_is_sound,
  λ state line reply new s is.
      let made = step_made state line reply new is in
      subst IsSound (ap (λ (p : List ℕ × State). p.1) made.1) (step_sound state made.0 line s),
)
