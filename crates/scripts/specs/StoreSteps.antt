-- How a store answers a line that it is given. Ours.
use Rattle.std.specs.Prelude.{◌≡◌, ℕ, List, Bool, Option}
use Rattle.meta_types.specs.Rows.{State}
use Rattle.scripts.specs.Changes.{Changes}
use Rattle.scripts.specs.LineSteps.{Supplied, line_step, IsTrueAt}
use Rattle.scripts.specs.Lines.{with_line_feed}
use Rattle.scripts.specs.ReplyTexts.{reply_text_bytes}
use Rattle.scripts.specs.declared.reply_text.ReplyText.{ReplyText}

-- from one store a line is answered by these bytes and leads to the other, whatever the run supplies
abbrev pub Answers : State → List ℕ → List ℕ → State → Type 0
Answers old line reply new = (supplied : Option Supplied)
    × (line_step old supplied line ≡ (reply, new)) × IsTrueAt old supplied line

-- A line is answered as the definitions say, but for what a run may refuse it for. A line that may
-- have changed the store asks for something, and has the effect that it has where nothing is
-- missing. Any other line has none.
abbrev pub LineSteps : State → List ℕ → List ℕ → Bool → State → Type 0
LineSteps state line reply changes new =
    Answers state line reply new × Changes state line changes new

-- what is written for a reply
abbrev pub said_bytes : ReplyText → List ℕ
said_bytes said = with_line_feed (reply_text_bytes said)
