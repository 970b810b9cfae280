-- The texts of replies that show rows, or all objects of the backend.
use Rattle.std.proofs.Common.{◌≡◌, ◌∙◌, ap, refl, sym, ℕ, List, [], ◌∷◌, ◌++◌, append_assoc, true, codes, Option, Some, None}
use Rattle.json.specs.Print.{print}
use Rattle.json.specs.Token.{begin_object, end_object}
use Rattle.json.specs.Written.{Written}
use Rattle.serde_json.proofs.OnLiterals.{serde_json_on_literals}
use Rattle.serde_json.proofs.Texts.{print-outline}
use Rattle.serde_json.specs.Data.{Data, boolean, object, no_members, member}
use Rattle.serde_json.specs.Written.{compact_text}
use Rattle.meta_types.specs.Backends.{BackNames}
use Rattle.meta_types.specs.Shown.{Shown, was_there, shows_rows}
use Rattle.meta_types.specs.declared.shown_row.ShownRow.{ShownRow}
use Rattle.gc_report.specs.Reports.{list_data, member_if, objects_data}
use Rattle.gc_report.specs.Writing.{tokens_of, member_tokens, Adds}
use Rattle.reply_line.specs.Shown.{shown_data, shows_data, shows_text, objects_text}
use Rattle.reply_line.specs.StepWriting.{tokens_if}

-- a reply with a row, member by member; the last may be left out
pub shown_tokens : (row : Data) (there : Option Data) → tokens_of (object
    (member (codes "ok") (boolean true)
    (member (codes "row") row
    (member_if (codes "there") there no_members)))) ≡ begin_object ∷ (
    member_tokens (codes "ok") (boolean true) ++ (
    member_tokens (codes "row") row ++ (
    tokens_if (codes "there") there ++ end_object ∷ [])))
shown_tokens row None = refl
shown_tokens row (Some d) = refl

-- the tokens of such a reply, written into an empty text, are printed as its text
pub shown_printed : (shown : Shown) (old new : Written) (text : List ℕ) → old.tokens ≡ []
    → Adds old new (tokens_of (shows_data shown)) → text ≡ print new.tokens
    → text ≡ shows_text shown
unfolding shows_text
shown_printed shown old new text empty adds is =
    is ∙ ap print (adds.tokens ∙ ap (λ ts. ts ++ tokens_of (shows_data shown)) empty)
    ∙ print-outline (shows_data shown)

-- the reply that it was there
pub was_there_whole : codes "{\"ok\":true,\"there\":true}" ≡ shows_text was_there
unfolding shows_text serde_json_on_literals
was_there_whole = refl

-- the rows between what stands before and behind them
pub rows_whole : (rows : List ShownRow) → codes "{\"ok\":true,\"rows\":"
    ++ (compact_text (list_data shown_data rows) ++ codes "}\n")
    ≡ shows_text (shows_rows rows) ++ 10 ∷ []
unfolding serde_json_on_literals shows_text
rows_whole rows = ap (λ text. codes "{\"ok\":true,\"rows\":" ++ text)
    (sym (append_assoc (compact_text (list_data shown_data rows)) (codes "}") (codes "\n")))

-- the lists of objects between what stands before and behind them
pub objects_text_whole : (names : BackNames) → codes "{\"backend\":"
    ++ (compact_text (objects_data names) ++ codes ",\"ok\":true}\n")
    ≡ objects_text names ++ 10 ∷ []
unfolding serde_json_on_literals objects_text
objects_text_whole names = ap (λ text. codes "{\"backend\":" ++ text)
    (sym (append_assoc (compact_text (objects_data names)) (codes ",\"ok\":true}") (codes "\n")))
