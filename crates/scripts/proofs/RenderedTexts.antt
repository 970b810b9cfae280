-- On the texts that are said.
use Rattle.std.proofs.Common.{◌≡◌, ◌∙◌, ℕ, List, Bool, true, false, refl, inl, inr, Result, Ok, Err, String, Global, string_bytes}
use Rattle.std.specs.Prelude.{IfOk, OnErr, not}
use Rattle.meta_types.specs.Questions.{LineAnswer, of_event}
use Rattle.meta_types.specs.Steps.{refused}
use Rattle.meta_types.specs.declared.fault.Fault.{Fault}
use Rattle.meta_types.specs.declared.fault.Fault.TheVariants.{OutOfMemory}
use Rattle.reply_line.specs.Replies.{answer_text}
use Rattle.reply_line.specs.Explained.{line_answer_text}
use Rattle.scripts.specs.ReplyTexts.{is_read_only, IsRendered}

-- the text of what is read-only, or its refusal
pub rendered_of : (made : Result (String Global) Fault) (bytes : List ℕ) (answer : LineAnswer)
    → is_read_only answer ≡ true → IfOk made (λ text. bytes ≡ string_bytes text)
    → OnErr made (bytes ≡ answer_text (refused OutOfMemory))
    → IfOk made (λ text. string_bytes text ≡ line_answer_text answer) → IsRendered answer bytes
rendered_of (Ok text) bytes answer only said refusal is = inl (said ∙ is)
rendered_of (Err fault) bytes answer only said refusal is = inr (only, refusal)

-- what isn't so is not so
pub not_so : (test : Bool) → (test ≡ true → ⊥) → not test ≡ true
not_so true wrong = absurd (wrong refl)
not_so false wrong = refl
