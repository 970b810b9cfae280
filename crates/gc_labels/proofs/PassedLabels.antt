-- Labels that are passed one by one.
use Rattle.std.proofs.Common.{◌≡◌, ℕ, ◌+◌, ◌<◌, ◌≤◌, List, [], ◌∷◌, length, get_or, drop, Bool}
use Rattle.std.proofs.Common.{true, false, Some, None, String, Global, string_bytes, bytes_eq}
use Rattle.std.proofs.Common.{sym, ap, ◌∙◌}
use Rattle.std.specs.Prelude.{◌&&◌, if◌then◌else◌, Option}
use Rattle.std.specs.Option.{option_map_or}
use Rattle.std.proofs.lemmas.List.{at_drop_more, at_drop_all}
use Rattle.meta_types.specs.Text.{Text, texts_of}
use Rattle.meta_types.specs.Keys.{row_at}
use Rattle.meta_types.specs.Labels.{label_key, value_of}

abbrev pub Entry : Type 0
Entry = String Global × String Global

module _ (key : Text) where
  -- the value among the first entry and the rest, where it is known whether the first has the key
  abbrev next : Entry → List Entry → Bool → Option Text
  next entry rest same = option_map_or (λ (label : Text × Text). Some label.1)
      (if same && true then Some (string_bytes entry.0, string_bytes entry.1)
      else row_at label_key (key ∷ []) (texts_of rest)) None

  step : (entries : List Entry) (i : ℕ) (entry : Entry) (same : Bool) → i < length entries
      → entry ≡ get_or entries i entry → bytes_eq key (string_bytes entry.0) ≡ same
      → value_of (texts_of (drop i entries)) key ≡ next entry (drop (i + 1) entries) same
  step entries i entry same within is e =
      at_drop_more (λ (es : List Entry). value_of (texts_of es) key) entries i entry within
      ∙ ap (λ (x : Entry). value_of (texts_of (x ∷ drop (i + 1) entries)) key) (sym is)
      ∙ ap (next entry (drop (i + 1) entries)) e

  -- the entry has the key
  pub value_here : (entries : List Entry) (i : ℕ) (entry : Entry) → i < length entries
      → entry ≡ get_or entries i entry → bytes_eq key (string_bytes entry.0) ≡ true
      → value_of (texts_of (drop i entries)) key ≡ Some (string_bytes entry.1)
  value_here entries i entry within is same = step entries i entry true within is same

  -- the entry has another key
  pub value_past : (entries : List Entry) (i : ℕ) (entry : Entry) → i < length entries
      → entry ≡ get_or entries i entry → bytes_eq key (string_bytes entry.0) ≡ false
      → value_of (texts_of (drop i entries)) key ≡ value_of (texts_of (drop (i + 1) entries)) key
  value_past entries i entry within is other = step entries i entry false within is other

  -- no entry is left
  pub value_nowhere : (entries : List Entry) (i : ℕ) → length entries ≤ i
      → value_of (texts_of (drop i entries)) key ≡ None
  value_nowhere entries i all =
      at_drop_all (λ (es : List Entry). value_of (texts_of es) key) entries i all
