-- What one line of a script is answered, and what it leaves. Ours, unless a source stands beside.
use Rattle.std.specs.Prelude.{◌≡◌, ℕ, ◌==◌, List, [], ◌∷◌, ◌++◌, length, Bool, true, false, nat_lt, if◌then◌else◌, Option, Some, None, option_map}
use Rattle.std.specs.Option.{option_map_or}
use Rattle.meta_types.specs.Time.{instant_of}
use Rattle.meta_types.specs.Rows.{State}
use Rattle.meta_types.specs.declared.request.Request.{Request}
use Rattle.meta_types.specs.Steps.{Answer, answered, refused, Event, requested, collect, remove_collect}
use Rattle.meta_types.specs.Explanations.{question_fault}
use Rattle.meta_types.specs.Impacts.{impact_question_fault}
use Rattle.meta_types.specs.Requests.{outcome}
use Rattle.meta_types.specs.Shown.{holds_there, request_done, words_fault, shown_in}
use Rattle.meta_types.specs.Text.{Text}
use Rattle.meta_types.specs.Questions.{QuestionAnswer, explains, foresees, lists, names_of, LineAnswer, of_event, of_shown, of_question, IsExplanationFor, IsImpactFor}
use Rattle.meta_types.specs.declared.fault.Fault.{Fault}
use Rattle.meta_types.specs.declared.fault.Fault.TheVariants.{InvalidArgument, BadLine, TooLong, OutOfMemory, NoWorker}
use Rattle.request_line.specs.Lines.{command_in}
use Rattle.request_line.specs.declared.command.Command.{Command}
use Rattle.request_line.specs.declared.command.Command.TheVariants as A
use Rattle.reply_line.specs.Explained.{line_answer_text}
use Rattle.scripts.specs.EventSteps.{event_step}
use Rattle.scripts.specs.Lines.{short_request, asks_collection, with_line_feed}

-- What a run supplies to a line, beside nothing: that memory ran out, that a thread couldn't be
-- started, or the answer to the line's question.
pub data Supplied : Type 0 where
  out_of_memory : Supplied
  no_worker : Supplied
  gives : QuestionAnswer → Supplied

-- the answer that the run supplies to a question; where it supplies none, that nothing ever kept the row
abbrev pub supplied_answer : Option Supplied → QuestionAnswer
supplied_answer (Some (gives given)) = given
supplied_answer supplied = explains (record { kept = false; path = [] })

-- the event that is asked for; none where the moment of a collection can't be read, none for a
-- question, and none with words, which ask for what the store decides. The number of workers changes nothing, so one will do
abbrev pub event_for : Command → Option Event
event_for (A.Request request) = Some (requested request)
event_for (A.Show request answer there) = None
event_for (A.Collect at dry) = option_map (λ moment. collect moment dry 1) (instant_of at)
event_for (A.Explain ns kind name at) = None
event_for (A.Impact ns kind name at) = None
event_for A.BackList = None
event_for (A.Remove removal at) = option_map (λ moment. remove_collect removal moment 1) (instant_of at)

-- the answer of an event is one to a line
abbrev pub line_step_of : Answer × State → LineAnswer × State
line_step_of step = (of_event step.0, step.1)

-- a question is refused with its fault or has this answer, and leaves the store as it was
abbrev pub question_step : State → QuestionAnswer → Option Fault → LineAnswer × State
question_step state given fault =
    (option_map_or (λ f. of_event (refused f)) fault (of_question given), state)

-- The request is done, or its lease holds the object that exists. What it shows stands in the place
-- of its reply.
abbrev pub done_with_words : State → Request → Option Text → Option Text → LineAnswer × State
done_with_words state request answer there =
    let o = outcome state (request_done state request there) in
    let shown = shown_in o.after request (holds_there state request there) answer in
    (option_map_or of_shown shown (of_event (answered o.reply)), o.after)

-- a request with the words of its line is refused with its fault, or done
abbrev pub words_step : State → Request → Option Text → Option Text → LineAnswer × State
words_step state request answer there =
    option_map_or (λ fault. (of_event (refused fault), state))
    (words_fault state request answer there) (done_with_words state request answer there)

-- the step of an event, where the moment could be read
abbrev pub event_line_step : State → Option Event → LineAnswer × State
event_line_step state event =
    line_step_of (option_map_or (event_step state) event (refused InvalidArgument, state))

-- the answer to a request, and the store after it; a moment that can't be read
-- is refused, and is no event
abbrev pub command_step : State → QuestionAnswer → Command → LineAnswer × State
command_step state given (A.Explain ns kind name at) =
    question_step state given (question_fault state.records ns kind name at)
command_step state given (A.Impact ns kind name at) =
    question_step state given (impact_question_fault state ns kind name at)
command_step state given A.BackList = (of_question (lists (names_of state.backends)), state)
command_step state given (A.Request request) = line_step_of (event_step state (requested request))
command_step state given (A.Show request answer there) = words_step state request answer there
command_step state given (A.Collect at dry) = event_line_step state (event_for (A.Collect at dry))
command_step state given (A.Remove removal at) =
    event_line_step state (event_for (A.Remove removal at))

-- The answer to a question is right: it explains the row that is asked for, is what would go
-- without it, or names all objects of the backend. Answers of events, and what a line shows, have
-- no condition here.
abbrev pub IsTrueOf : State → Option Command → LineAnswer → Type 0
IsTrueOf state command (of_event answer) = Unit {0}
IsTrueOf state command (of_shown shown) = Unit {0}
IsTrueOf state (Some (A.Explain ns kind name at)) (of_question (explains told)) =
    IsExplanationFor state.records ns kind name at told
IsTrueOf state (Some (A.Impact ns kind name at)) (of_question (foresees impact)) =
    IsImpactFor state ns kind name at impact
IsTrueOf state (Some A.BackList) (of_question (lists names)) = names ≡ names_of state.backends
IsTrueOf state command (of_question given) = ⊥

-- the answer to a line that isn't empty, and the store after it
abbrev pub line_answer : State → QuestionAnswer → List ℕ → LineAnswer × State
line_answer state given line =
    if nat_lt 65536 (length line) then (of_event (refused TooLong), state)
    else option_map_or (command_step state given) (command_in line)
    (of_event (refused BadLine), state)

-- the same, where the line may be refused; NoWorker refuses only collections and dry runs
abbrev pub answer_step : State → Option Supplied → List ℕ → LineAnswer × State
answer_step state None line = line_answer state (supplied_answer None) line
answer_step state (Some (gives given)) line = line_answer state given line
answer_step state (Some out_of_memory) line = (of_event (refused OutOfMemory), state)
answer_step state (Some no_worker) line =
    if asks_collection (short_request line) then (of_event (refused NoWorker), state)
    else line_answer state (supplied_answer None) line

-- the line is so answered, whatever the run supplies, and leaves this store; an answer to a
-- question is right
abbrev pub IsLineAnswer : State → List ℕ → LineAnswer → State → Type 0
IsLineAnswer old line answer new =
    (supplied : Option Supplied) × (answer_step old supplied line ≡ (answer, new))
    × IsTrueOf old (short_request line) answer

-- what a run answers to the question of a line is right; an empty line asks for nothing
abbrev pub IsTrueAt : State → Option Supplied → List ℕ → Type 0
IsTrueAt state supplied [] = Unit {0}
IsTrueAt state supplied (byte ∷ line) =
    IsTrueOf state (short_request (byte ∷ line)) (answer_step state supplied (byte ∷ line)).0

-- what is written for a line, with its line feed, and the store after it; an
-- empty line asks for nothing
unfoldable pub line_step : State → Option Supplied → List ℕ → List ℕ × State
line_step state supplied line =
    if length line == 0 then ([], state)
    else (
      with_line_feed (line_answer_text (answer_step state supplied line).0),
      (answer_step state supplied line).1,
    )
