-- The tokens of a step, some of whose members are left out; and an explanation as it is printed.
use Rattle.std.proofs.Common.{◌≡◌, ◌∙◌, ap, refl, ℕ, List, [], ◌∷◌, ◌++◌, codes, Option, Some, None}
use Rattle.json.specs.Print.{print}
use Rattle.json.specs.Token.{begin_object, end_object}
use Rattle.json.specs.Written.{Written}
use Rattle.serde_json.proofs.Texts.{print-outline}
use Rattle.serde_json.specs.Data.{Data, string, object, no_members, member}
use Rattle.meta_types.specs.Text.{Text}
use Rattle.meta_types.specs.Questions.{ExplanationValue}
use Rattle.gc_report.specs.Reports.{member_if}
use Rattle.gc_report.specs.Writing.{tokens_of, member_tokens, Adds}
use Rattle.reply_line.specs.Explained.{told_data, told_text}
use Rattle.reply_line.specs.StepWriting.{tokens_if}

-- member by member, each of three there or left out
pub step_tokens : (by name type : Text) (expire label mode : Option Data) → tokens_of (object
    (member (codes "by") (string by)
    (member_if (codes "expire") expire
    (member_if (codes "label") label
    (member_if (codes "mode") mode
    (member (codes "name") (string name)
    (member (codes "type") (string type) no_members))))))) ≡ begin_object ∷ (
    member_tokens (codes "by") (string by) ++ (
    tokens_if (codes "expire") expire ++ (
    tokens_if (codes "label") label ++ (
    tokens_if (codes "mode") mode ++ (
    member_tokens (codes "name") (string name) ++ (
    member_tokens (codes "type") (string type) ++ end_object ∷ []))))))
step_tokens by name type None None None = refl
step_tokens by name type None None (Some c) = refl
step_tokens by name type None (Some b) None = refl
step_tokens by name type None (Some b) (Some c) = refl
step_tokens by name type (Some a) None None = refl
step_tokens by name type (Some a) None (Some c) = refl
step_tokens by name type (Some a) (Some b) None = refl
step_tokens by name type (Some a) (Some b) (Some c) = refl

-- the tokens of an explanation, written into an empty text, are printed as its text
pub told_printed : (told : ExplanationValue) (old new : Written) (text : List ℕ) → old.tokens ≡ []
    → Adds old new (tokens_of (told_data told)) → text ≡ print new.tokens → text ≡ told_text told
unfolding told_text
told_printed told old new text empty adds is =
    is ∙ ap print (adds.tokens ∙ ap (λ ts. ts ++ tokens_of (told_data told)) empty) ∙ print-outline (told_data told)
