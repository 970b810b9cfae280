-- Which answers are read-only, and what is said for an answer. Ours, unless a source stands beside.
use Rattle.std.specs.Prelude.{◌≡◌, ℕ, List, [], Bool, true, false, not, ◌⊎◌, Option, Some, None}
use Rattle.std.specs.Box.{box_value}
use Rattle.std.specs.Cow.{cow_str_bytes}
use Rattle.meta_types.specs.Steps.{answered, reported, refused}
use Rattle.meta_types.specs.Shown.{Shown, shows_row, was_there, shows_rows}
use Rattle.meta_types.specs.Questions.{LineAnswer, of_event, of_shown, of_question}
use Rattle.meta_types.specs.declared.fault.Fault.TheVariants.{OutOfMemory}
use Rattle.reply_line.specs.Fixed.{is_done}
use Rattle.reply_line.specs.Replies.{answer_text}
use Rattle.reply_line.specs.Explained.{line_answer_text}
use Rattle.reply_line.specs.Shown.{shows_text, objects_text}
use Rattle.scripts.specs.Lines.{with_line_feed}
use Rattle.scripts.specs.declared.reply_text.ReplyText.{ReplyText}
use Rattle.scripts.specs.declared.reply_text.ReplyText.TheVariants.{Text, Report, Rows, Objects}

-- rows of a listing; the text of one row is made before its change
abbrev pub are_listed : Shown → Bool
are_listed (shows_row there row) = false
are_listed was_there = false
are_listed (shows_rows rows) = true

-- the answer is read-only, so the store is as before: rows and names, a dry run, and
-- the answer to a question
abbrev pub is_read_only : LineAnswer → Bool
is_read_only (of_event (answered reply)) = not (is_done reply)
is_read_only (of_event (reported report)) = report.dry
is_read_only (of_event (refused fault)) = false
is_read_only (of_shown shown) = are_listed shown
is_read_only (of_question given) = true

-- the answer's text; where it is read-only, memory may refuse the line instead
abbrev pub IsRendered : LineAnswer → List ℕ → Type 0
IsRendered answer bytes =
    (bytes ≡ line_answer_text answer)
    ⊎ ((is_read_only answer ≡ true) × (bytes ≡ line_answer_text (of_event (refused OutOfMemory))))

-- what is said, without its line feed
abbrev pub reply_text_bytes : ReplyText → List ℕ
reply_text_bytes (Text text) = cow_str_bytes text
reply_text_bytes (Report report) = answer_text (reported (box_value report))
reply_text_bytes (Rows rows) = shows_text (shows_rows rows.items)
reply_text_bytes (Objects objects) = objects_text (box_value objects)

-- the bytes that a reply is written as, where there is one
abbrev pub reply_bytes : Option ReplyText → List ℕ
reply_bytes None = []
reply_bytes (Some said) = with_line_feed (reply_text_bytes said)
