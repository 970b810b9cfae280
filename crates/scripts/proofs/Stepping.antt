-- A line that was answered is a step, and so is one that is refused.
use Rattle.std.proofs.Common.{◌≡◌, refl, ℕ, ◌<◌, ◌==◌, List, [], ◌∷◌, ◌++◌, length, true, false, Some, None}
use Rattle.meta_types.specs.Rows.{State}
use Rattle.meta_types.specs.Steps.{refused}
use Rattle.meta_types.specs.Questions.{of_event}
use Rattle.meta_types.specs.declared.fault.Fault.TheVariants.{OutOfMemory, TooLong}
use Rattle.reply_line.specs.Replies.{answer_text}
use Rattle.scripts.specs.LineSteps.{out_of_memory}
use Rattle.scripts.specs.StoreSteps.{LineSteps}
use Rattle.scripts.proofs.LineAnswers.{line_step-answer, line_step-empty, line_step-long, true_at_empty, true_at_long, true_at_memory}

-- a line that is too long
pub long_steps : (state : State) (line : List ℕ) → 65536 < length line
    → LineSteps state line (answer_text (refused TooLong) ++ 10 ∷ []) false state
long_steps state line long =
    ((None, line_step-long state line long, true_at_long state line long), refl)

-- a line that memory refuses changes nothing
pub refused_steps : (state : State) (line : List ℕ) → (length line == 0) ≡ false
    → LineSteps state line (answer_text (refused OutOfMemory) ++ 10 ∷ []) false state
refused_steps state line full = (
  (
    Some out_of_memory,
    line_step-answer state (Some out_of_memory) line (of_event (refused OutOfMemory)) state full
        refl,
    true_at_memory state line,
  ),
  refl,
)

-- nor does an empty one
pub empty_steps : (state : State) (line : List ℕ) → (length line == 0) ≡ true
    → LineSteps state line [] false state
empty_steps state line empty =
    ((None, line_step-empty state None line empty, true_at_empty state None line empty), refl)
