-- A line that begins by "number " asks for nothing, so it is never logged.
use Rattle.std.proofs.Common.{◌≡◌, ◌∙◌, ap, refl, sym, ℕ, List, ◌++◌, take, drop, Bool, true, false, Option, None, inl, inr}
use Rattle.std.specs.Prelude.{if◌then◌else◌, codes, option_and_then}
use Rattle.std.specs.Str.{is_utf8}
use Rattle.std.proofs.lemmas.Bool.{cases_Bool, false≢true}
use Rattle.std.proofs.lemmas.List.{take-append-drop}
use Rattle.std.proofs.lemmas.Slice.Eq.{bytes_eq-Decides}
use Rattle.serde_json.specs.Data.{Data}
use Rattle.serde_json.specs.Read.{read}
use Rattle.serde_json.proofs.OnLiterals.{serde_json_on_literals}
use Rattle.request_line.specs.Lines.{command_from, command_in}
use Rattle.request_line.specs.declared.command.Command.{Command}
use Rattle.kept_store.specs.Numbers.{is_marked, number_of, number_in}

-- ---- what it asks for

-- no JSON begins so
read_none : (rest : List ℕ) → read (codes "number " ++ rest) ≡ None
unfolding serde_json_on_literals
read_none rest = refl

pub none_of : (b : Bool) (found : Option Command) → found ≡ None
    → (if b then found else None) ≡ None
none_of true found none = none
none_of false found none = refl

-- a line that begins by "number " is read as no command
pub asks_nothing : (rest : List ℕ) → command_in (codes "number " ++ rest) ≡ None
unfolding command_in
asks_nothing rest =
    none_of (is_utf8 (codes "number " ++ rest)) _
    (ap (λ (d : Option Data). option_and_then command_from d) (read_none rest))

marked_asks_nothing : (line : List ℕ) → is_marked line ≡ true → command_in line ≡ None
marked_asks_nothing line marked =
    ap command_in (sym (take-append-drop 7 line)
    ∙ ap (λ (front : List ℕ). front ++ drop 7 line)
    ((bytes_eq-Decides (take 7 line) (codes "number ")).0 marked))
    ∙ asks_nothing (drop 7 line)

none_unless : (b : Bool) (found : Option ℕ) → b ≡ false → (if b then found else None) ≡ None
none_unless true found unmarked = absurd (false≢true (sym unmarked))
none_unless false found unmarked = refl

-- a line that asks for something raises no number
pub raises_none : (line : List ℕ) → (command_in line ≡ None → ⊥) → number_in line ≡ None
raises_none line asks = elim (cases_Bool (is_marked line)) [
  | inl marked ↦ absurd (asks (marked_asks_nothing line marked))
  | inr other ↦ none_unless (is_marked line) (number_of (drop 7 line)) other
]
