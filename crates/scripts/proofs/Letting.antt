-- What a mode lets be done.
use Rattle.std.proofs.Common.{◌≡◌, ◌∙◌, ap, refl, ℕ, ℤ, List, length, nat_lt, Bool, true, false, ◌==◌, Option, Some, None, inl, inr}
use Rattle.std.specs.Prelude.{if◌then◌else◌, not, is_some, option_map}
use Rattle.std.specs.Option.{option_map_or}
use Rattle.std.proofs.lemmas.Bool.{cases_Bool, false≢true}
use Rattle.meta_types.specs.Rows.{State}
use Rattle.meta_types.specs.Ops.{least_fault}
use Rattle.meta_types.specs.Requests.{outcome}
use Rattle.meta_types.specs.Text.{Text}
use Rattle.meta_types.specs.Time.{instant_of}
use Rattle.meta_types.specs.Steps.{Answer, refused, collect, collect_fault}
use Rattle.meta_types.specs.Shown.{object_to_hold, hold_of, holds_there, request_done, words_fault}
use Rattle.meta_types.specs.Questions.{QuestionAnswer, LineAnswer, of_event}
use Rattle.meta_types.specs.declared.fault.Fault.{Fault}
use Rattle.meta_types.specs.declared.fault.Fault.TheVariants.{InvalidArgument, BadLine, TooLong}
use Rattle.meta_types.specs.declared.request.Request.{Request}
use Rattle.meta_types.specs.declared.request.Request.TheVariants as Q
use Rattle.request_line.specs.Lines.{command_in}
use Rattle.request_line.specs.Refusals.{IsUnread}
use Rattle.request_line.specs.declared.command.Command.{Command}
use Rattle.request_line.specs.declared.command.Command.TheVariants as A
use Rattle.scripts.specs.Changes.{after_line}
use Rattle.scripts.specs.EventSteps.{plans, event_step}
use Rattle.scripts.specs.LineSteps.{supplied_answer, line_step_of, done_with_words, command_step, answer_step}
use Rattle.scripts.proofs.LineAnswers.{line_step-answer, line_step-empty}
use Rattle.line_loop.specs.Modes.{MayChange}
use Rattle.line_loop.specs.declared.mode.Mode.{Mode}
use Rattle.line_loop.specs.declared.mode.Mode.TheVariants.{AllLines, NoAdditions, ReadOnly}
use Rattle.scripts.specs.Doing.{only_asks, never_changes, command_adds, lets, adds, lets_line, logs}
use Rattle.scripts.specs.StoreSteps.{LineSteps}

-- ---- what never changes the store

either_one : (b : Bool) (x y : Request) → x ≡ y → (if b then x else y) ≡ y
either_one true x y same = same
either_one false x y same = refl

-- a request that makes nothing that a lease may hold is itself done
after_itself : (state : State) (request : Request) (there : Option Text)
    → option_map_or hold_of (object_to_hold request) request ≡ request
    → (outcome state (request_done state request there)).after ≡ (outcome state request).after
after_itself state request there same =
    ap (λ (r : Request). (outcome state r).after)
    (either_one (holds_there state request there) _ request same)

-- a request that only asks leaves the store, whatever stands in its line
asked_still : (state : State) (request : Request) (there : Option Text)
    → only_asks request ≡ true
    → (outcome state (request_done state request there)).after ≡ state
asked_still state (Q.NsAdd ns) there is = absurd (false≢true is)
asked_still state (Q.NsRemove ns) there is = absurd (false≢true is)
asked_still state Q.NsList there is = after_itself state Q.NsList there refl
asked_still state (Q.ImageAdd asked) there is = absurd (false≢true is)
asked_still state (Q.ImageTarget asked) there is = absurd (false≢true is)
asked_still state (Q.ImageSet asked) there is = absurd (false≢true is)
asked_still state (Q.ImageRemove image) there is = absurd (false≢true is)
asked_still state (Q.ImageGet image) there is = after_itself state (Q.ImageGet image) there refl
asked_still state (Q.ImageList ns) there is = after_itself state (Q.ImageList ns) there refl
asked_still state (Q.ImageLabel image label) there is = absurd (false≢true is)
asked_still state (Q.ContainerAdd asked) there is = absurd (false≢true is)
asked_still state (Q.ContainerSet asked) there is = absurd (false≢true is)
asked_still state (Q.ContainerRemove container) there is = absurd (false≢true is)
asked_still state (Q.ContainerGet container) there is =
    after_itself state (Q.ContainerGet container) there refl
asked_still state (Q.ContainerList ns) there is = after_itself state (Q.ContainerList ns) there refl
asked_still state (Q.ContainerLabel container label) there is = absurd (false≢true is)
asked_still state (Q.ContentAdd asked) there is = absurd (false≢true is)
asked_still state (Q.ContentSet content update) there is = absurd (false≢true is)
asked_still state (Q.ContentRemove content dropped_by) there is = absurd (false≢true is)
asked_still state (Q.ContentGet content) there is =
    after_itself state (Q.ContentGet content) there refl
asked_still state (Q.ContentLabel content label) there is = absurd (false≢true is)
asked_still state (Q.ContentList ns) there is = after_itself state (Q.ContentList ns) there refl
asked_still state (Q.IngestBegin asked) there is = absurd (false≢true is)
asked_still state (Q.IngestOpen asked) there is = absurd (false≢true is)
asked_still state (Q.IngestCommit asked) there is = absurd (false≢true is)
asked_still state (Q.IngestAbort ingest dropped_by) there is = absurd (false≢true is)
asked_still state (Q.IngestGet ingest) there is = after_itself state (Q.IngestGet ingest) there refl
asked_still state (Q.IngestList ns) there is = after_itself state (Q.IngestList ns) there refl
asked_still state (Q.SnapPrepare asked) there is = absurd (false≢true is)
asked_still state (Q.SnapView asked) there is = absurd (false≢true is)
asked_still state (Q.SnapCommit asked) there is = absurd (false≢true is)
asked_still state (Q.SnapSet snapshot update) there is = absurd (false≢true is)
asked_still state (Q.SnapRemove snapshot dropped_by) there is = absurd (false≢true is)
asked_still state (Q.SnapGet snapshot) there is = after_itself state (Q.SnapGet snapshot) there refl
asked_still state (Q.SnapLabel snapshot label) there is = absurd (false≢true is)
asked_still state (Q.SnapList ns snapshotter) there is =
    after_itself state (Q.SnapList ns snapshotter) there refl
asked_still state (Q.SnapSnapshotters ns) there is =
    after_itself state (Q.SnapSnapshotters ns) there refl
asked_still state (Q.LeaseAdd asked) there is = absurd (false≢true is)
asked_still state (Q.LeaseSet lease update) there is = absurd (false≢true is)
asked_still state (Q.LeaseRemove lease) there is = absurd (false≢true is)
asked_still state (Q.LeaseGet lease) there is = after_itself state (Q.LeaseGet lease) there refl
asked_still state (Q.LeaseLabel lease label) there is = absurd (false≢true is)
asked_still state (Q.LeaseList ns) there is = after_itself state (Q.LeaseList ns) there refl
asked_still state (Q.LeaseHold asked) there is = absurd (false≢true is)
asked_still state (Q.LeaseDrop asked) there is = absurd (false≢true is)
asked_still state (Q.LeaseResources lease) there is =
    after_itself state (Q.LeaseResources lease) there refl
asked_still state (Q.Profile v) there is = absurd (false≢true is)

-- the store that a step leaves
abbrev Stays : State → LineAnswer × State → Type 0
Stays state step = step.1 ≡ state

module _ {Step : Type 0} (P : Step → Type 0) where
  either_way : {A : Type 0} (f : A → Step) (found : Option A) (other : Step) → ((x : A) → P (f x))
      → P other → P (option_map_or f found other)
  either_way f None other each none = none
  either_way f (Some x) other each none = each x

  by_test : (b : Bool) (one two : Step) → P one → P two → P (if b then one else two)
  by_test true one two p q = p
  by_test false one two p q = q

request_stays : (state new : State) (fault : Option Fault) → new ≡ state
    → (if is_some fault then state else new) ≡ state
request_stays state new None same = same
request_stays state new (Some fault) same = refl

-- a dry run leaves the store
dry_stays : (state : State) (at : ℤ) → (event_step state (collect at true 1)).1 ≡ state
dry_stays state at =
    either_way (λ (step : Answer × State). step.1 ≡ state) (λ fault. (refused fault, state))
    (collect_fault state.records 1) (plans state at) (λ fault. refl) refl

timed_stays : (state : State) (moment : Option ℤ)
    → Stays state (line_step_of (option_map_or (event_step state)
    (option_map (λ at. collect at true 1) moment) (refused InvalidArgument, state)))
timed_stays state None = refl
timed_stays state (Some at) = dry_stays state at

-- so does what a line asks for that never changes it
command_stays : (state : State) (given : QuestionAnswer) (command : Command)
    → never_changes command ≡ true → Stays state (command_step state given command)
command_stays state given (A.Request request) is =
    request_stays state (outcome state request).after (least_fault (outcome state request))
    (asked_still state request None is)
command_stays state given (A.Show request answer there) is =
    either_way (Stays state) (λ fault. (of_event (refused fault), state))
    (words_fault state request answer there) (done_with_words state request answer there)
    (λ fault. refl) (asked_still state request there is)
command_stays state given (A.Collect at true) is = timed_stays state (instant_of at)
command_stays state given (A.Collect at false) is = absurd (false≢true is)
command_stays state given (A.Remove removal at) is = absurd (false≢true is)
command_stays state given (A.Explain ns kind name at) is = refl
command_stays state given (A.Impact ns kind name at) is = refl
command_stays state given A.BackList is = refl

found_stays : (state : State) (given : QuestionAnswer) (found : Option Command)
    → option_map_or (lets ReadOnly) found true ≡ true
    → Stays state
    (option_map_or (command_step state given) found (of_event (refused BadLine), state))
found_stays state given None is = refl
found_stays state given (Some command) is = command_stays state given command is

answer_stays : (state : State) (line : List ℕ) → lets_line ReadOnly line ≡ true
    → Stays state (answer_step state None line)
answer_stays state line is =
    by_test (Stays state) (nat_lt 65536 (length line)) (of_event (refused TooLong), state)
    (option_map_or (command_step state (supplied_answer None)) (command_in line)
    (of_event (refused BadLine), state)) refl
    (found_stays state (supplied_answer None) (command_in line) is)

-- a line that is let be done where nothing may change changes nothing
line_stays : (state : State) (line : List ℕ) → lets_line ReadOnly line ≡ true
    → after_line state line ≡ state
line_stays state line is = elim (cases_Bool (length line == 0)) [
  | inl empty ↦ ap (λ (s : List ℕ × State). s.1) (line_step-empty state None line empty)
  | inr full ↦ let plain = answer_step state None line in
      ap (λ (s : List ℕ × State). s.1)
      (line_step-answer state None line plain.0 plain.1 full refl)
      ∙ answer_stays state line is
]

-- ---- what a mode lets be done

not_true : (b : Bool) → not b ≡ true → b ≡ false
not_true true is = absurd (false≢true is)
not_true false is = refl

adds_not : (found : Option Command) → option_map_or (lets NoAdditions) found true ≡ true
    → option_map_or command_adds found false ≡ false
adds_not None is = refl
adds_not (Some command) is = not_true (command_adds command) is

-- no line asks for what it doesn't ask for
lets_none : (mode : Mode) (line : List ℕ) → command_in line ≡ None → lets_line mode line ≡ true
lets_none mode line none =
    ap (λ (found : Option Command). option_map_or (lets mode) found true) none

pub lets_unread : (mode : Mode) (line : List ℕ) (fault : Fault) → fault ≡ BadLine
    → IsUnread (command_in line) fault → lets_line mode line ≡ true
lets_unread mode line fault is unread = elim unread [
  | inl memory ↦ absurd cc
  | inr none ↦ lets_none mode line none.1
]

pub lets_some : (mode : Mode) (line : List ℕ) (command : Command)
    → command_in line ≡ Some command → lets mode command ≡ true → lets_line mode line ≡ true
lets_some mode line command some is =
    ap (λ (found : Option Command). option_map_or (lets mode) found true) some ∙ is

all_let : (found : Option Command) → option_map_or (lets AllLines) found true ≡ true
all_let None = refl
all_let (Some command) = refl

-- where there is room, each line is let be done
pub lets_all : (mode : Mode) (line : List ℕ) → mode ≡ AllLines → lets_line mode line ≡ true
lets_all mode line is = rw is (all_let (command_in line))

-- where the line is let be done, what is logged of it may change the store
pub let_may : (mode : Mode) (line : List ℕ) (changes : Bool) → lets_line mode line ≡ true
    → MayChange adds mode line (logs mode changes)
let_may AllLines line changes is = tt
let_may NoAdditions line changes is = λ logged. adds_not (command_in line) is
let_may ReadOnly line changes is = refl

-- what isn't logged may be in any mode
pub still_may : (mode : Mode) (line : List ℕ) → MayChange adds mode line false
still_may AllLines line = tt
still_may NoAdditions line = λ logged. absurd (false≢true logged)
still_may ReadOnly line = refl

-- a line that is let be done is a step, also where it isn't logged
pub let_steps : (mode : Mode) (state new : State) (line reply : List ℕ) (changes : Bool)
    → lets_line mode line ≡ true → LineSteps state line reply changes new
    → LineSteps state line reply (logs mode changes) new
let_steps AllLines state new line reply changes is steps = steps
let_steps NoAdditions state new line reply changes is steps = steps
let_steps ReadOnly state new line reply true is steps =
    (steps.0, steps.1.0 ∙ line_stays state line is)
let_steps ReadOnly state new line reply false is steps = steps
