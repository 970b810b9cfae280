-- Which answers tell of a change, and what a line changes. Ours.
use Rattle.std.specs.Prelude.{◌≡◌, ℕ, ◌==◌, ◌&&◌, List, length, Bool, true, false, not, Option, Some, None, ℤ}
use Rattle.meta_types.specs.Backends.{BackNames}
use Rattle.meta_types.specs.Reports.{Removed as RemovedRows, Report as CollectionReport, Collects}
use Rattle.meta_types.specs.Rows.{State}
use Rattle.meta_types.specs.Steps.{answered, reported, refused}
use Rattle.meta_types.specs.Questions.{LineAnswer, of_event, of_shown, of_question}
use Rattle.request_line.specs.Lines.{command_in}
use Rattle.reply_line.specs.Fixed.{is_done}
use Rattle.scripts.specs.LineAnswers.{line_answer_of}
use Rattle.scripts.specs.LineSteps.{line_step}
use Rattle.scripts.specs.declared.line_answer.LineAnswer.{LineAnswer as Made}
use Rattle.scripts.specs.declared.line_answer.LineAnswer.TheVariants.{Replied, Shown, There, Listed, Reported, Removed, Refused, Explained, Foreseen, Objects}
use Rattle.scripts.specs.declared.reply_text.ReplyText.{ReplyText}
use Rattle.scripts.specs.declared.reply_text.ReplyText.TheVariants.{Text, Report, Rows, Objects}

-- no row is named
abbrev pub names_no_row : RemovedRows → Bool
names_no_row removed = (length removed.content == 0) && ((length removed.images == 0)
    && ((length removed.ingests == 0) && ((length removed.leases == 0)
    && (length removed.snapshots == 0))))

-- no object is named
abbrev pub names_no_object : BackNames → Bool
names_no_object names = (length names.blobs == 0)
    && ((length names.ingests == 0) && (length names.snapshots == 0))

-- a report names nothing that went, and nothing whose removal failed
abbrev pub names_nothing : CollectionReport → Bool
names_nothing report = names_no_row report.removed
    && (names_no_object report.backend && names_no_object report.failed)

-- a report is of a collection, and names something
abbrev pub has_effect : CollectionReport → Bool
has_effect report = not report.dry && not (names_nothing report)

-- the answer is that of a request that is done, what a line shows, or the report of a collection
-- that names something
abbrev pub tells_change : LineAnswer → Bool
tells_change (of_event (answered reply)) = is_done reply
tells_change (of_event (reported report)) = has_effect report
tells_change (of_event (refused fault)) = false
tells_change (of_shown shown) = true
tells_change (of_question given) = false

-- The line of such an answer may have changed the store. The report of a removal doesn't name the
-- row that was removed, so a removal always may. A row is shown of a request that is done, or of
-- one that asks for it.
abbrev pub may_change : Made → Bool
may_change (Replied reply) = is_done reply
may_change (Shown row changes) = changes
may_change There = true
may_change (Listed rows) = false
may_change (Reported report) = tells_change (line_answer_of (Reported report))
may_change (Removed report) = true
may_change (Refused fault) = false
may_change (Explained explanation) = false
may_change (Foreseen impact) = false
may_change (Objects objects) = false

-- the line is refused
abbrev pub is_refusal : LineAnswer → Bool
is_refusal (of_event (answered reply)) = false
is_refusal (of_event (reported report)) = false
is_refusal (of_event (refused fault)) = true
is_refusal (of_shown shown) = false
is_refusal (of_question given) = false

-- the reply is a report
abbrev pub is_report : Option ReplyText → Bool
is_report None = false
is_report (Some (Text text)) = false
is_report (Some (Report report)) = true
is_report (Some (Rows rows)) = false
is_report (Some (Objects objects)) = false

-- the store after a line, where neither memory nor a thread is missing
abbrev pub after_line : State → List ℕ → State
after_line state line = (line_step state None line).1

-- A line that may have changed the store asks for something, and leaves the store that it leaves
-- where nothing is missing. Any other leaves it as it was.
abbrev pub Changes : State → List ℕ → Bool → State → Type 0
Changes old line true new = (new ≡ after_line old line) × (command_in line ≡ None → ⊥)
Changes old line false new = new ≡ old

-- A collection whose report names nothing leaves the store as it was.
abbrev pub CollectionsWithoutEffect : Type 0
CollectionsWithoutEffect = (state : State) (at : ℤ) (failed : BackNames)
    (report : CollectionReport) (new : State) → Collects state at failed report new
    → names_nothing report ≡ true → new ≡ state
