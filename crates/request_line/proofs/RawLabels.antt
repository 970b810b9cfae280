-- On the keys and texts of an object.
use Rattle.std.proofs.Common.{◌≡◌, ◌∙◌, refl, sym, ap, List, [], ◌∷◌, ◌++◌, Bor, map, string_bytes, unwrap_or}
use Rattle.std.proofs.lemmas.List.{map-append}
use Rattle.serde_json.specs.Find.{as_str}
use Rattle.serde_json.specs.View.{view, members_view}
use Rattle.serde_json.proofs.Views.{Entry}
use Rattle.meta_types.specs.Text.{Text}
use Rattle.request_line.specs.Members.{pairs_from}

-- one more member
pub pairs_from-push : (es : List Entry) (e : Entry)
    → pairs_from (members_view (es ++ e ∷ []))
    ≡ pairs_from (members_view es) ++ (string_bytes e.0, unwrap_or (as_str (view e.1)) []) ∷ []
pairs_from-push [] e = refl
pairs_from-push (x ∷ es) e =
    ap (λ ps. (string_bytes x.0, unwrap_or (as_str (view x.1)) []) ∷ ps) (pairs_from-push es e)

-- a turn of the loop over the members
pub pairs_turn : (entries more : List (Text × Text)) (es : List Entry) (e : Entry) (key text : Text)
    → entries ≡ pairs_from (members_view es) → key ≡ string_bytes e.0
    → text ≡ unwrap_or (as_str (view e.1)) [] → more ≡ entries ++ (key, text) ∷ []
    → more ≡ pairs_from (members_view (es ++ e ∷ []))
pairs_turn entries more es e key text before named is pushed =
    pushed ∙ (λ i. before i ++ (named i, is i) ∷ []) ∙ sym (pairs_from-push es e)

-- a turn of the loop over texts that are lent
pub lent_turn : (entries more : List (Text × Text)) (ts : List (Bor Text × Bor Text))
    (t : Bor Text × Bor Text) (key text : Text)
    → entries ≡ map (λ t. (t.0.now, t.1.now)) ts → key ≡ t.0.now → text ≡ t.1.now
    → more ≡ entries ++ (key, text) ∷ []
    → more ≡ map (λ t. (t.0.now, t.1.now)) (ts ++ t ∷ [])
lent_turn entries more ts t key text before named is pushed =
    pushed ∙ (λ i. before i ++ (named i, is i) ∷ [])
    ∙ sym (map-append (λ t. (t.0.now, t.1.now)) ts (t ∷ []))
