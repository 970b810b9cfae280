-- What a whole script is answered, line by line, without a word of how: what `run_script` promises.
-- Ours, unless a source stands beside.
use Rattle.std.specs.Prelude.{◌≡◌, ◌⊎◌, ℕ, ℤ, List, [], ◌∷◌, ◌++◌, length, true, false, nat_lt, if◌then◌else◌, is_some, Option, Some, None}
use Rattle.std.specs.Option.{option_map_or}
use Rattle.meta_types.specs.Time.{instant_of}
use Rattle.meta_types.specs.Rows.{State, empty_store}
use Rattle.meta_types.specs.Backends.{no_objects}
use Rattle.meta_types.specs.Reports.{Collects, Plans}
use Rattle.meta_types.specs.Ops.{least_fault}
use Rattle.meta_types.specs.Requests.{outcome, removal_outcome}
use Rattle.meta_types.specs.Steps.{answered, reported, refused, collect_fault, remove_collect_fault}
use Rattle.meta_types.specs.Explanations.{question_fault}
use Rattle.meta_types.specs.Impacts.{impact_question_fault}
use Rattle.meta_types.specs.Shown.{holds_there, request_done, words_fault, shown_in}
use Rattle.meta_types.specs.Questions.{explains, foresees, lists, names_of, LineAnswer, of_event, of_shown, of_question, IsExplanationFor, IsImpactFor}
use Rattle.meta_types.specs.EachKind.{IsCollected}
use Rattle.meta_types.specs.declared.fault.Fault.{Fault}
use Rattle.meta_types.specs.declared.fault.Fault.TheVariants.{InvalidArgument, BadLine, TooLong, OutOfMemory, NoWorker}
use Rattle.request_line.specs.Lines.{command_in}
use Rattle.request_line.specs.declared.command.Command.{Command}
use Rattle.request_line.specs.declared.command.Command.TheVariants as A
use Rattle.reply_line.specs.Explained.{line_answer_text}
use Rattle.scripts.specs.Lines.{lines_of, whole_lines, short_request, asks_collection, with_line_feed}

-- ---- why a line is refused

-- why the store refuses the request, if it does
abbrev pub command_fault : State → Command → Option Fault
command_fault state (A.Request request) = least_fault (outcome state request)
command_fault state (A.Show request answer there) = words_fault state request answer there
command_fault state (A.Collect at dry) =
    if is_some (instant_of at) then collect_fault state.records 1 else Some InvalidArgument
command_fault state (A.Explain ns kind name at) = question_fault state.records ns kind name at
command_fault state (A.Impact ns kind name at) = impact_question_fault state ns kind name at
command_fault state A.BackList = None
command_fault state (A.Remove removal at) =
    if is_some (instant_of at) then remove_collect_fault state removal 1 else Some InvalidArgument

-- why a line is refused, if it is: it is too long, no request, or the store refuses its request
abbrev pub line_fault : State → List ℕ → Option Fault
line_fault state line =
    if nat_lt 65536 (length line) then Some TooLong
    else option_map_or (command_fault state) (command_in line) (Some BadLine)

-- memory that runs out may refuse any line, a thread that can't be started only a collection, a dry
-- run or a removal with one
abbrev pub MayBeRefused : List ℕ → Fault → Type 0
MayBeRefused line fault = (fault ≡ OutOfMemory)
    ⊎ ((fault ≡ NoWorker) × (asks_collection (short_request line) ≡ true))

-- ---- what a line is answered

-- The request is done. A collection gives the report and leaves the store that `Collects` says: of
-- each kind exactly what is reached stays, as `IsCollected` says kind by kind (containerd
-- garbage-collection.md). A dry run reports what a collection would, and leaves the store as it was.
-- A request is answered by its definition, or by what its words ask it to show of the store that is
-- left; its lease holds an object that exists, where `there` says so. The answer to a question
-- explains its row, is what would go without it, or names all objects, and changes nothing.
abbrev pub IsDone : State → Command → LineAnswer → State → Type 0
IsDone state (A.Collect at false) (of_event (reported report)) new =
    (moment : ℤ) × (instant_of at ≡ Some moment) × Collects state moment no_objects report new
    × IsCollected state moment false report new
IsDone state (A.Collect at true) (of_event (reported report)) new =
    (moment : ℤ) × (instant_of at ≡ Some moment) × Plans state moment report × (new ≡ state)
    × (left : State) × IsCollected state moment true report left
IsDone state (A.Remove removal at) (of_event (reported report)) new =
    (moment : ℤ) × (instant_of at ≡ Some moment)
    × Collects (removal_outcome state removal).after moment no_objects report new
    × IsCollected (removal_outcome state removal).after moment false report new
IsDone state (A.Request request) (of_event (answered reply)) new =
    (reply ≡ (outcome state request).reply) × (new ≡ (outcome state request).after)
IsDone state (A.Show request answer there) (of_event (answered reply)) new =
    (shown_in new request (holds_there state request there) answer ≡ None)
    × (reply ≡ (outcome state (request_done state request there)).reply)
    × (new ≡ (outcome state (request_done state request there)).after)
IsDone state (A.Show request answer there) (of_shown shown) new =
    (shown_in new request (holds_there state request there) answer ≡ Some shown)
    × (new ≡ (outcome state (request_done state request there)).after)
IsDone state (A.Explain ns kind name at) (of_question (explains told)) new =
    IsExplanationFor state.records ns kind name at told × (new ≡ state)
IsDone state (A.Impact ns kind name at) (of_question (foresees impact)) new =
    IsImpactFor state ns kind name at impact × (new ≡ state)
IsDone state A.BackList (of_question (lists names)) new =
    (names ≡ names_of state.backends) × (new ≡ state)
IsDone state command answer new = ⊥

-- A refused line changes nothing, and is refused for its own fault, or for memory or a thread. Else
-- it has no fault, and its request is done.
abbrev pub IsAnswered : State → List ℕ → LineAnswer → State → Type 0
IsAnswered state line (of_event (refused fault)) new =
    (new ≡ state) × ((line_fault state line ≡ Some fault) ⊎ MayBeRefused line fault)
IsAnswered state line answer new = (command : Command) × (short_request line ≡ Some command)
    × (line_fault state line ≡ None) × IsDone state command answer new

-- the reply to a line, with its line feed, and the store after it; an empty line asks for nothing
abbrev pub AnswersLine : State → List ℕ → List ℕ → State → Type 0
AnswersLine state [] reply new = (reply ≡ []) × (new ≡ state)
AnswersLine state (byte ∷ line) reply new = (answer : LineAnswer)
    × (reply ≡ with_line_feed (line_answer_text answer))
    × IsAnswered state (byte ∷ line) answer new

-- ---- what a script is answered

-- from this store on the lines are answered with these bytes, one after the other
abbrev pub AnswersLines : State → List (List ℕ) → List ℕ → Type 0
AnswersLines state [] written = written ≡ []
AnswersLines state (line ∷ lines) written =
    (reply : List ℕ) × (new : State) × AnswersLine state line reply new
    × (rest : List ℕ) × (written ≡ reply ++ rest) × AnswersLines new lines rest

-- the bytes answer the lines of the script, from the empty store on
abbrev pub AnswersScript : List ℕ → List ℕ → Type 0
AnswersScript script written = AnswersLines empty_store (lines_of script) written

-- the bytes answer the whole lines of the script
abbrev pub AnswersWholeLines : List ℕ → List ℕ → Type 0
AnswersWholeLines script written = AnswersScript (whole_lines script) written

-- the bytes begin what answers the script
abbrev pub BeginsAnswers : List ℕ → List ℕ → Type 0
BeginsAnswers script written = (rest : List ℕ) × AnswersScript script (written ++ rest)
