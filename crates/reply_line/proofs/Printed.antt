-- What was printed is the text of an answer.
use Rattle.std.proofs.Common.{◌≡◌, ◌∙◌, ap, ℕ, List, [], ◌++◌}
use Rattle.json.specs.Print.{print}
use Rattle.json.specs.Written.{Written}
use Rattle.serde_json.proofs.Texts.{print-outline}
use Rattle.meta_types.specs.Steps.{Answer}
use Rattle.gc_report.specs.Writing.{tokens_of, Adds}
use Rattle.reply_line.specs.Replies.{answer_data, answer_text}

-- the tokens of an answer, written into an empty text, are printed as the answer's text
pub answer_printed : (answer : Answer) (old new : Written) (text : List ℕ) → old.tokens ≡ [] → Adds old new (tokens_of (answer_data answer)) → text ≡ print new.tokens → text ≡ answer_text answer
unfolding answer_text
answer_printed answer old new text empty adds is =
    is ∙ ap print (adds.tokens ∙ ap (λ ts. ts ++ tokens_of (answer_data answer)) empty) ∙ print-outline (answer_data answer)
