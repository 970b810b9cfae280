-- An impact as it is printed.
use Rattle.std.proofs.Common.{◌≡◌, ◌∙◌, ap, ℕ, List, [], ◌++◌}
use Rattle.json.specs.Print.{print}
use Rattle.json.specs.Written.{Written}
use Rattle.serde_json.proofs.Texts.{print-outline}
use Rattle.meta_types.specs.Impacts.{Impact}
use Rattle.gc_report.specs.Writing.{tokens_of, Adds}
use Rattle.reply_line.specs.Foreseen.{foreseen_data, impact_text}

-- the tokens of an impact are printed as its text
pub impact_printed : (impact : Impact) (old new : Written) (text : List ℕ) → old.tokens ≡ []
    → Adds old new (tokens_of (foreseen_data impact)) → text ≡ print new.tokens
    → text ≡ impact_text impact
unfolding impact_text
impact_printed impact old new text empty adds is =
    is ∙ ap print (adds.tokens ∙ ap (λ ts. ts ++ tokens_of (foreseen_data impact)) empty)
    ∙ print-outline (foreseen_data impact)
