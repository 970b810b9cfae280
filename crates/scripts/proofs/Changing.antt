-- A line whose answer tells no change leaves the store as it was; any other leaves the store that it
-- leaves where nothing is missing.
use Rattle.std.proofs.Common.{◌≡◌, ◌∙◌, ap, refl, sym, subst, ℕ, ℤ, ◌==◌, List, length, Bool, true, false, nat_lt, Option, Some, None, ◌⊎◌, inl, inr}
use Rattle.std.specs.Prelude.{if◌then◌else◌, is_some, not, option_map}
use Rattle.std.specs.Option.{option_map_or}
use Rattle.std.proofs.lemmas.Bool.{cases_Bool, false≢true}
use Rattle.meta_types.specs.Time.{instant_of}
use Rattle.meta_types.specs.Rows.{State}
use Rattle.meta_types.specs.Finding.{reached_in}
use Rattle.meta_types.specs.Backends.{no_objects}
use Rattle.meta_types.specs.Reports.{Report}
use Rattle.meta_types.specs.Ops.{Outcome, least_fault}
use Rattle.meta_types.specs.Requests.{outcome, removal_outcome}
use Rattle.meta_types.specs.Steps.{Answer, answered, reported, refused, Event, requested, collect, remove_collect, collect_fault, remove_collect_fault}
use Rattle.meta_types.specs.Shown.{Shown, holds_there, request_done, words_fault, shown_in}
use Rattle.meta_types.specs.Questions.{QuestionAnswer, LineAnswer, of_event, of_shown, of_question}
use Rattle.meta_types.specs.declared.fault.Fault.{Fault}
use Rattle.meta_types.specs.declared.fault.Fault.TheVariants.{InvalidArgument, BadLine, TooLong, OutOfMemory, NoWorker}
use Rattle.meta_types.specs.declared.request.Request.{Request}
use Rattle.meta_types.specs.declared.reply.Reply.{Reply}
use Rattle.meta_types.specs.declared.reply.Reply.TheVariants as R
use Rattle.request_core.proofs.EachRequest.{quiet}
use Rattle.request_line.specs.Lines.{command_in}
use Rattle.request_line.specs.declared.command.Command.{Command}
use Rattle.request_line.specs.declared.command.Command.TheVariants as A
use Rattle.reply_line.specs.Fixed.{is_done}
use Rattle.scripts.specs.Changes.{names_nothing, tells_change, may_change, is_refusal, after_line, Changes}
use Rattle.scripts.specs.EventSteps.{plans, collects, collection_report, event_step}
use Rattle.scripts.specs.LineSteps.{Supplied, out_of_memory, no_worker, gives, supplied_answer, event_for, line_step_of, done_with_words, command_step, line_answer, answer_step, line_step, IsLineAnswer}
use Rattle.scripts.specs.Lines.{short_request, asks_collection}
use Rattle.scripts.specs.LineAnswers.{line_answer_of}
use Rattle.scripts.specs.Served.{IsServed}
use Rattle.scripts.specs.declared.line_answer.LineAnswer.{LineAnswer as Made}
use Rattle.scripts.specs.declared.line_answer.LineAnswer.TheVariants as M
use Rattle.scripts.proofs.Effects.{nothing_changed}
use Rattle.scripts.proofs.LineAnswers.{line_step-answer}

-- ---- what shows no change

-- a request that is done, what is shown, or a collection
abbrev is_loud : LineAnswer → Bool
is_loud (of_event (answered reply)) = is_done reply
is_loud (of_event (reported report)) = not report.dry
is_loud (of_event (refused fault)) = false
is_loud (of_shown shown) = true
is_loud (of_question given) = false

abbrev IsStill : State → LineAnswer × State → Type 0
IsStill state step = is_loud step.0 ≡ false → step.1 ≡ state

abbrev IsStillEvent : State → Answer × State → Type 0
IsStillEvent state step = IsStill state (line_step_of step)

module _ {Step : Type 0} (P : Step → Type 0) where
  either_way : {A : Type 0} (f : A → Step) (found : Option A) (other : Step) → ((x : A) → P (f x))
      → P other → P (option_map_or f found other)
  either_way f None other each none = none
  either_way f (Some x) other each none = each x

  by_test : (b : Bool) (one two : Step) → P one → P two → P (if b then one else two)
  by_test true one two p q = p
  by_test false one two p q = q

both : {b : Bool} → b ≡ true → b ≡ false → ⊥
both one other = false≢true (sym other ∙ one)

request_still : (state : State) (o : Outcome) (fault : Option Fault)
    → ((o.reply ≡ R.Done) ⊎ (o.after ≡ state))
    → IsStillEvent state
    (option_map_or refused fault (answered o.reply), if is_some fault then state else o.after)
request_still state o (Some fault) either still = refl
request_still state o None (inl done) still =
    absurd (both (refl {a = true}) (subst (λ r. is_done r ≡ false) done still))
request_still state o None (inr same) still = same

collects_still : (state old : State) (at : ℤ) → IsStillEvent old (collects state at)
collects_still state old at still = absurd (both (refl {a = true}) still)

dry_still : (state : State) (at : ℤ) (dry : Bool)
    → IsStillEvent state (if dry then plans state at else collects state at)
dry_still state at true still = refl
dry_still state at false still = collects_still state state at still

event_still : (state : State) (event : Event) → IsStillEvent state (event_step state event)
event_still state (requested request) =
    request_still state (outcome state request) (least_fault (outcome state request))
    (quiet state request)
event_still state (collect at dry workers) =
    either_way (IsStillEvent state) (λ fault. (refused fault, state))
    (collect_fault state.records workers) (if dry then plans state at else collects state at)
    (λ fault still. refl) (dry_still state at dry)
event_still state (remove_collect removal at workers) =
    either_way (IsStillEvent state) (λ fault. (refused fault, state))
    (remove_collect_fault state removal workers)
    (collects (removal_outcome state removal).after at) (λ fault still. refl)
    (collects_still (removal_outcome state removal).after state at)

at_moment_still : (state : State) (event : Option Event)
    → IsStillEvent state (option_map_or (event_step state) event (refused InvalidArgument, state))
at_moment_still state event =
    either_way (IsStillEvent state) (event_step state) event (refused InvalidArgument, state)
    (event_still state) (λ still. refl)

-- a reply, or what is shown in its place
words_still : (state : State) (o : Outcome) (shown : Option Shown)
    → ((o.reply ≡ R.Done) ⊎ (o.after ≡ state))
    → IsStill state (option_map_or of_shown shown (of_event (answered o.reply)), o.after)
words_still state o (Some shown) either still = absurd (both (refl {a = true}) still)
words_still state o None (inl done) still =
    absurd (both (refl {a = true}) (subst (λ r. is_done r ≡ false) done still))
words_still state o None (inr same) still = same

command_still : (state : State) (given : QuestionAnswer) (command : Command)
    → IsStill state (command_step state given command)
command_still state given (A.Request request) = event_still state (requested request)
command_still state given (A.Collect at dry) = at_moment_still state (event_for (A.Collect at dry))
command_still state given (A.Remove removal at) =
    at_moment_still state (event_for (A.Remove removal at))
command_still state given (A.Show request answer there) =
    either_way (IsStill state) (λ fault. (of_event (refused fault), state))
    (words_fault state request answer there) (done_with_words state request answer there)
    (λ fault still. refl)
    (words_still state (outcome state (request_done state request there))
    (shown_in (outcome state (request_done state request there)).after request
    (holds_there state request there) answer) (quiet state (request_done state request there)))
command_still state given (A.Explain ns kind name at) = λ still. refl
command_still state given (A.Impact ns kind name at) = λ still. refl
command_still state given A.BackList = λ still. refl

line_still : (state : State) (given : QuestionAnswer) (line : List ℕ)
    → IsStill state (line_answer state given line)
line_still state given line =
    by_test (IsStill state) (nat_lt 65536 (length line)) (of_event (refused TooLong), state)
    (option_map_or (command_step state given) (command_in line)
    (of_event (refused BadLine), state)) (λ still. refl)
    (either_way (IsStill state) (command_step state given) (command_in line)
    (of_event (refused BadLine), state) (command_still state given) (λ still. refl))

step_still : (state : State) (supplied : Option Supplied) (line : List ℕ)
    → IsStill state (answer_step state supplied line)
step_still state None line = line_still state (supplied_answer None) line
step_still state (Some (gives given)) line = line_still state given line
step_still state (Some out_of_memory) line = λ still. refl
step_still state (Some no_worker) line =
    by_test (IsStill state) (asks_collection (short_request line))
    (of_event (refused NoWorker), state) (line_answer state (supplied_answer None) line)
    (λ still. refl)
    (line_still state (supplied_answer None) line)

-- ---- what a report tells

-- what tells no change leaves the store as it was
abbrev Keeps : State → LineAnswer × State → Type 0
Keeps state step = tells_change step.0 ≡ false → step.1 ≡ state

not_false : (b : Bool) → not b ≡ false → b ≡ true
not_false true e = refl
not_false false e = absurd (false≢true (sym e))

collects_keeps : (state : State) (at : ℤ) → Keeps state (line_step_of (collects state at))
collects_keeps state at none =
    nothing_changed state at (reached_in state.records at) no_objects
    (not_false (names_nothing (collection_report state at false)) none)

dry_keeps : (state : State) (at : ℤ) (dry : Bool)
    → Keeps state (line_step_of (if dry then plans state at else collects state at))
dry_keeps state at true none = refl
dry_keeps state at false none = collects_keeps state at none

collect_event_keeps : (state : State) (at : ℤ) (dry : Bool) (workers : ℕ)
    → Keeps state (line_step_of (event_step state (collect at dry workers)))
collect_event_keeps state at dry workers =
    either_way (λ step. Keeps state (line_step_of step)) (λ fault. (refused fault, state))
    (collect_fault state.records workers) (if dry then plans state at else collects state at)
    (λ fault none. refl) (dry_keeps state at dry)

timed_keeps : (state : State) (dry : Bool) (moment : Option ℤ)
    → Keeps state (line_step_of (option_map_or (event_step state)
    (option_map (λ at. collect at dry 1) moment) (refused InvalidArgument, state)))
timed_keeps state dry None none = refl
timed_keeps state dry (Some at) none = collect_event_keeps state at dry 1 none

-- a request that isn't done changed nothing
pub request_keeps : (state : State) (request : Request) (reply : Reply) (new : State)
    → IsServed state (A.Request request) (of_event (answered reply)) new → is_done reply ≡ false
    → new ≡ state
request_keeps state request reply new served none =
    sym (ap (λ (s : LineAnswer × State). s.1) served.2)
    ∙ event_still state (requested request)
    (ap (λ (s : LineAnswer × State). is_loud s.0) served.2 ∙ none)

-- nor did a collection whose report names nothing, or a dry run
pub collect_keeps : (state : State) (at : List ℕ) (dry : Bool) (report : Report) (new : State)
    → IsServed state (A.Collect at dry) (of_event (reported report)) new
    → tells_change (of_event (reported report)) ≡ false → new ≡ state
collect_keeps state at dry report new served none =
    sym (ap (λ (s : LineAnswer × State). s.1) served.2)
    ∙ timed_keeps state dry (instant_of at)
    (ap (λ (s : LineAnswer × State). tells_change s.0) served.2 ∙ none)

-- nor did a line that is refused
pub refused_keeps : (state : State) (line : List ℕ) (fault : Fault) (new : State)
    → IsLineAnswer state line (of_event (refused fault)) new → new ≡ state
refused_keeps state line fault new is =
    sym (ap (λ (s : LineAnswer × State). s.1) is.1)
    ∙ step_still state is.0 line (ap (λ (s : LineAnswer × State). is_loud s.0) is.1)

-- ---- what is done

-- a question leaves the store as it was, whatever it is given
command_alike : (state : State) (one other : QuestionAnswer) (command : Command)
    → (command_step state one command).1 ≡ (command_step state other command).1
command_alike state one other (A.Request request) = refl
command_alike state one other (A.Collect at dry) = refl
command_alike state one other (A.Remove removal at) = refl
command_alike state one other (A.Show request answer there) = refl
command_alike state one other (A.Explain ns kind name at) = refl
command_alike state one other (A.Impact ns kind name at) = refl
command_alike state one other A.BackList = refl

found_alike : (state : State) (one other : QuestionAnswer) (found : Option Command)
    (none : LineAnswer × State)
    → (option_map_or (command_step state one) found none).1
    ≡ (option_map_or (command_step state other) found none).1
found_alike state one other None none = refl
found_alike state one other (Some command) none = command_alike state one other command

tested_alike : (long : Bool) (a b c : LineAnswer × State) → b.1 ≡ c.1
    → (if long then a else b).1 ≡ (if long then a else c).1
tested_alike true a b c same = refl
tested_alike false a b c same = same

line_alike : (state : State) (one other : QuestionAnswer) (line : List ℕ)
    → (line_answer state one line).1 ≡ (line_answer state other line).1
line_alike state one other line =
    tested_alike (nat_lt 65536 (length line)) (of_event (refused TooLong), state) _ _
    (found_alike state one other (command_in line) (of_event (refused BadLine), state))

-- the store after a step that isn't refused
abbrev IsMoved : State → List ℕ → LineAnswer × State → Type 0
IsMoved state line step = is_refusal step.0 ≡ false → step.1 ≡ (answer_step state None line).1

step_moved : (state : State) (supplied : Option Supplied) (line : List ℕ)
    → IsMoved state line (answer_step state supplied line)
step_moved state None line = λ may. refl
step_moved state (Some (gives given)) line =
    λ may. line_alike state given (supplied_answer None) line
step_moved state (Some out_of_memory) line = λ may. absurd (both (refl {a = true}) may)
step_moved state (Some no_worker) line =
    by_test (IsMoved state line) (asks_collection (short_request line))
    (of_event (refused NoWorker), state) (line_answer state (supplied_answer None) line)
    (λ may. absurd (both (refl {a = true}) may))
    (λ may. refl)

-- a line that isn't refused leaves what it leaves where nothing is missing
pub answer_moves : (state : State) (line : List ℕ) (answer : LineAnswer) (new : State)
    → (length line == 0) ≡ false → IsLineAnswer state line answer new
    → is_refusal answer ≡ false → new ≡ after_line state line
answer_moves state line answer new full is done =
    let plain = answer_step state None line in
    sym (ap (λ (s : LineAnswer × State). s.1) is.1)
    ∙ step_moved state is.0 line (ap (λ (s : LineAnswer × State). is_refusal s.0) is.1 ∙ done)
    ∙ sym (ap (λ (s : List ℕ × State). s.1)
    (line_step-answer state None line plain.0 plain.1 full refl))

-- ---- what asks for nothing is refused

abbrev IsRefused : LineAnswer × State → Type 0
IsRefused step = is_refusal step.0 ≡ true

line_refused : (state : State) (given : QuestionAnswer) (line : List ℕ) → command_in line ≡ None
    → IsRefused (line_answer state given line)
line_refused state given line none =
    subst (λ (found : Option Command). IsRefused (if nat_lt 65536 (length line)
    then (of_event (refused TooLong), state)
    else option_map_or (command_step state given) found (of_event (refused BadLine), state)))
    (sym none)
    (by_test IsRefused (nat_lt 65536 (length line)) (of_event (refused TooLong), state)
    (of_event (refused BadLine), state) refl refl)

asks_nothing_refused : (state : State) (supplied : Option Supplied) (line : List ℕ)
    → command_in line ≡ None → IsRefused (answer_step state supplied line)
asks_nothing_refused state None line none = line_refused state (supplied_answer None) line none
asks_nothing_refused state (Some (gives given)) line none = line_refused state given line none
asks_nothing_refused state (Some out_of_memory) line none = refl
asks_nothing_refused state (Some no_worker) line none =
    by_test IsRefused (asks_collection (short_request line)) (of_event (refused NoWorker), state)
    (line_answer state (supplied_answer None) line) refl
    (line_refused state (supplied_answer None) line none)

-- ---- a line

not_refused : (made : Made) → may_change made ≡ true → is_refusal (line_answer_of made) ≡ false
not_refused (M.Replied reply) may = refl
not_refused (M.Shown row changes) may = refl
not_refused M.There may = refl
not_refused (M.Listed rows) may = refl
not_refused (M.Reported report) may = refl
not_refused (M.Removed report) may = refl
not_refused (M.Refused fault) may = absurd (false≢true may)
not_refused (M.Explained explanation) may = refl
not_refused (M.Foreseen impact) may = refl
not_refused (M.Objects objects) may = refl

-- an answer says whether its line changed the store
pub line_changes : (state : State) (line : List ℕ) (made : Made) (new : State) (told : Bool)
    → (length line == 0) ≡ false → IsLineAnswer state line (line_answer_of made) new
    → (may_change made ≡ false → new ≡ state) → told ≡ may_change made
    → Changes state line told new
line_changes state line made new true full is still tells =
    let done = not_refused made (sym tells) in (
      answer_moves state line (line_answer_of made) new full is done,
      λ none. both (asks_nothing_refused state is.0 line none)
          (ap (λ (s : LineAnswer × State). is_refusal s.0) is.1 ∙ done),
    )
line_changes state line made new false full is still tells = still (sym tells)
