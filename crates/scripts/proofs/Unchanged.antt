-- A line whose answer is read-only leaves the store as it was.
use Rattle.std.proofs.Common.{◌≡◌, ◌∙◌, ap, refl, sym, subst, ℕ, ℤ, ◌==◌, List, length, Bool, true, false, nat_lt, Option, Some, None, ◌⊎◌, inl, inr}
use Rattle.std.specs.Prelude.{if◌then◌else◌, is_some, not, option_map, bytes_eq, codes}
use Rattle.std.specs.Option.{option_map_or}
use Rattle.meta_types.specs.Rows.{State}
use Rattle.meta_types.specs.Ops.{Outcome, least_fault}
use Rattle.meta_types.specs.Requests.{outcome}
use Rattle.meta_types.specs.Steps.{Answer, answered, refused, Event, requested, collect, remove_collect, collect_fault, remove_collect_fault}
use Rattle.meta_types.specs.Text.{Text}
use Rattle.meta_types.specs.Shown.{Shown, shows_row, was_there, shows_rows, row_shown, rows_listed, holds_there, request_done, words_fault, shown_in}
use Rattle.meta_types.specs.Questions.{QuestionAnswer, LineAnswer, of_event}
use Rattle.meta_types.specs.declared.request.Request.{Request}
use Rattle.meta_types.specs.declared.shown_row.ShownRow.{ShownRow}
use Rattle.meta_types.specs.declared.fault.Fault.{Fault}
use Rattle.meta_types.specs.declared.fault.Fault.TheVariants.{InvalidArgument, BadLine, TooLong, OutOfMemory, NoWorker}
use Rattle.meta_types.specs.declared.reply.Reply.TheVariants as R
use Rattle.request_core.proofs.EachRequest.{quiet}
use Rattle.request_line.specs.Lines.{command_in}
use Rattle.request_line.specs.declared.command.Command.{Command}
use Rattle.request_line.specs.declared.command.Command.TheVariants as A
use Rattle.reply_line.specs.Fixed.{is_done}
use Rattle.scripts.specs.EventSteps.{plans, collects, event_step}
use Rattle.scripts.specs.LineSteps.{Supplied, out_of_memory, no_worker, gives, supplied_answer, event_for, line_step_of, done_with_words, command_step, line_answer, answer_step, line_step, IsLineAnswer, IsTrueAt}
use Rattle.scripts.specs.Lines.{short_request, asks_collection, with_line_feed}
use Rattle.scripts.specs.ReplyTexts.{is_read_only, IsRendered}
use Rattle.scripts.proofs.LineAnswers.{line_step-answer, true_at, true_at_memory}
use Rattle.scripts.proofs.WithWords.{itself_done, listing_still, listing_itself}

-- where the answer is read-only, the store is as before
abbrev IsQuiet : State → LineAnswer × State → Type 0
IsQuiet state step = is_read_only step.0 ≡ true → step.1 ≡ state

-- the same of an event
abbrev IsQuietEvent : State → Answer × State → Type 0
IsQuietEvent state step = IsQuiet state (line_step_of step)

module _ {Step : Type 0} (P : Step → Type 0) where
  either_way : {A : Type 0} (f : A → Step) (found : Option A) (other : Step) → ((x : A) → P (f x))
      → P other → P (option_map_or f found other)
  either_way f None other each none = none
  either_way f (Some x) other each none = each x

  by_test : (b : Bool) (one two : Step) → P one → P two → P (if b then one else two)
  by_test true one two p q = p
  by_test false one two p q = q

request_quiet : (state : State) (o : Outcome) (fault : Option Fault)
    → ((o.reply ≡ R.Done) ⊎ (o.after ≡ state))
    → IsQuietEvent state
    (option_map_or refused fault (answered o.reply), if is_some fault then state else o.after)
request_quiet state o (Some fault) either only = refl
request_quiet state o None (inl done) only = let wrong : false ≡ true =
    subst (λ r. not (is_done r) ≡ true) done only in absurd cc
request_quiet state o None (inr same) only = same

-- a collection's report isn't dry
dry_quiet : (state : State) (at : ℤ) (dry : Bool)
    → IsQuietEvent state (if dry then plans state at else collects state at)
dry_quiet state at true only = refl
dry_quiet state at false only = absurd cc

event_quiet : (state : State) (event : Event) → IsQuietEvent state (event_step state event)
event_quiet state (requested request) = request_quiet state (outcome state request) (least_fault (outcome state request)) (quiet state request)
event_quiet state (collect at dry workers) =
    either_way (IsQuietEvent state) (λ fault. (refused fault, state))
    (collect_fault state.records workers) (if dry then plans state at else collects state at)
    (λ fault only. refl) (dry_quiet state at dry)
event_quiet state (remove_collect removal at workers) =
    either_way (IsQuietEvent state) (λ fault. (refused fault, state))
    (remove_collect_fault state removal workers) _ (λ fault only. refl) (λ only. absurd cc)

-- an event, where the moment can be read
at_moment_quiet : (state : State) (event : Option Event)
    → IsQuietEvent state (option_map_or (event_step state) event (refused InvalidArgument, state))
at_moment_quiet state event =
    either_way (IsQuietEvent state) (event_step state) event (refused InvalidArgument, state)
    (event_quiet state) (λ only. refl)

-- rows are those of a listing
row_not_rows : (there : Bool) (row : Option ShownRow) (rows : List ShownRow)
    → option_map (shows_row there) row ≡ Some (shows_rows rows) → ⊥
row_not_rows there None rows e = absurd cc
row_not_rows there (Some row) rows e = absurd cc

there_not_rows : (there : Bool) (rows : List ShownRow)
    → (if there then Some was_there else None) ≡ Some (shows_rows rows) → ⊥
there_not_rows true rows e = absurd cc
there_not_rows false rows e = absurd cc

rows_are_listed : (new : State) (request : Request) (there : Bool) (answer : Option Text)
    (rows : List ShownRow) → shown_in new request there answer ≡ Some (shows_rows rows)
    → (list : State → List ShownRow) × (rows_listed request ≡ Some list)
rows_are_listed new request there None rows e = absurd (there_not_rows there rows e)
rows_are_listed new request there (Some word) rows e =
    go (bytes_eq word (codes "rows")) (rows_listed request) refl e
  where
    go : (asks : Bool) (found : Option (State → List ShownRow)) → rows_listed request ≡ found
        → (if asks then option_map (λ (list : State → List ShownRow). shows_rows (list new)) found
        else option_map (shows_row there) (row_shown new request)) ≡ Some (shows_rows rows)
        → (list : State → List ShownRow) × (rows_listed request ≡ Some list)
    go true None is e = absurd cc
    go true (Some list) is e = (list, is)
    go false found is e = absurd (row_not_rows there (row_shown new request) rows e)

-- what words show is read-only for rows of a listing alone
words_quiet : (state : State) (request : Request) (answer there : Option Text)
    (shown : Option Shown)
    → shown_in (outcome state (request_done state request there)).after request
    (holds_there state request there) answer ≡ shown
    → is_read_only (done_with_words state request answer there).0 ≡ true
    → (outcome state (request_done state request there)).after ≡ state
words_quiet state request answer there None is only =
    let done = request_done state request there in
    let told : not (is_done (outcome state done).reply) ≡ true =
    rw is at only in elim (quiet state done) [
      | inl reply ↦ let wrong : false ≡ true =
          subst (λ r. not (is_done r) ≡ true) reply told in absurd cc
      | inr same ↦ same
    ]
words_quiet state request answer there (Some (shows_row was row)) is only =
    let wrong : false ≡ true = rw is at only in absurd cc
words_quiet state request answer there (Some was_there) is only =
    let wrong : false ≡ true = rw is at only in absurd cc
words_quiet state request answer there (Some (shows_rows rows)) is only =
    let listing = rows_are_listed (outcome state (request_done state request there)).after
    request (holds_there state request there) answer rows is in
    let itself = itself_done state request there
    (listing_itself state request there listing.0 listing.1) in
    ap (λ (r : Request). (outcome state r).after) itself
    ∙ (listing_still state request listing.0 listing.1).0

asked_quiet : (state : State) (given : QuestionAnswer) (asked : Command)
    → IsQuiet state (command_step state given asked)
asked_quiet state given (A.Request request) = event_quiet state (requested request)
asked_quiet state given (A.Collect at dry) = at_moment_quiet state (event_for (A.Collect at dry))
asked_quiet state given (A.Remove removal at) =
    at_moment_quiet state (event_for (A.Remove removal at))
asked_quiet state given (A.Show request answer there) =
    either_way (IsQuiet state) (λ fault. (of_event (refused fault), state))
    (words_fault state request answer there) (done_with_words state request answer there)
    (λ fault only. refl)
    (words_quiet state request answer there
    (shown_in (outcome state (request_done state request there)).after request
    (holds_there state request there) answer) refl)
asked_quiet state given (A.Explain ns kind name at) = λ only. refl
asked_quiet state given (A.Impact ns kind name at) = λ only. refl
asked_quiet state given A.BackList = λ only. refl

line_quiet : (state : State) (given : QuestionAnswer) (line : List ℕ)
    → IsQuiet state (line_answer state given line)
line_quiet state given line =
    by_test (IsQuiet state) (nat_lt 65536 (length line)) (of_event (refused TooLong), state)
    (option_map_or (command_step state given) (command_in line)
    (of_event (refused BadLine), state)) (λ only. refl)
    (either_way (IsQuiet state) (command_step state given) (command_in line)
    (of_event (refused BadLine), state) (asked_quiet state given) (λ only. refl))

step_quiet : (state : State) (supplied : Option Supplied) (line : List ℕ)
    → IsQuiet state (answer_step state supplied line)
step_quiet state None line = line_quiet state (supplied_answer None) line
step_quiet state (Some (gives given)) line = line_quiet state given line
step_quiet state (Some out_of_memory) line = λ only. refl
step_quiet state (Some no_worker) line =
    by_test (IsQuiet state) (asks_collection (short_request line))
    (of_event (refused NoWorker), state) (line_answer state (supplied_answer None) line) (λ only. refl)
    (line_quiet state (supplied_answer None) line)

-- what is said for the answer to a line is a reply to it
pub line_step-said : (state : State) (line : List ℕ) (answer : LineAnswer) (new : State)
    (bytes : List ℕ) → (length line == 0) ≡ false → IsLineAnswer state line answer new
    → IsRendered answer bytes
    → (supplied : Option Supplied) × (line_step state supplied line ≡ (with_line_feed bytes, new))
    × IsTrueAt state supplied line
line_step-said state line answer new bytes full is (inl text) = (
  is.0,
  line_step-answer state is.0 line answer new full is.1
      ∙ (λ i. (with_line_feed (sym text i), new)),
  true_at state is.0 line answer new is.1 is.2,
)
line_step-said state line answer new bytes full is (inr told) =
    let same : state ≡ new =
    sym (sym (ap (λ step. step.1) is.1)
    ∙ step_quiet state is.0 line (ap (λ step. is_read_only step.0) is.1 ∙ told.0)) in (
      Some out_of_memory,
      line_step-answer state (Some out_of_memory) line (of_event (refused OutOfMemory)) state full
          refl ∙ (λ i. (with_line_feed (sym told.1 i), same i)),
      true_at_memory state line,
    )
