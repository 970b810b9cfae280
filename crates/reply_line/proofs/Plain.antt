-- Texts that stand in a string as they are.
use Rattle.std.proofs.Common.{
  ◌≡◌,
  ◌∙◌,
  refl,
  sym,
  ap,
  ap₂,
  ℕ,
  ◌<◌,
  ◌+◌,
  List,
  [],
  ◌∷◌,
  ◌++◌,
  take,
  length,
  Bool,
  true,
}
use Rattle.std.specs.Prelude.{slice_index, ◌&&◌, ◌==◌}
use Rattle.std.specs.List.{list_all}
use Rattle.std.proofs.lemmas.Bool.{and_parts, or_parts, not-true, eqb-false, ltb-false}
use Rattle.std.proofs.lemmas.List.{take_more}
use Rattle.json.specs.Print.{escape}
use Rattle.json.specs.Run.{is_plain, is_stop}
use Rattle.json.proofs.Printed.Strings.{escape_byte_plain}
use Rattle.meta_types.proofs.HexDigits.{list_all-push}

-- one byte more
pub plain_more : (s : List ℕ) (i : ℕ) (p q next : Bool) → i < length s → next ≡ (p && q) → q ≡
    is_plain (slice_index s i) → p ≡ list_all is_plain (take i s) → next ≡ list_all is_plain
    (take (i + 1) s)
plain_more s i p q next lt both last front =
    both ∙ (λ k. front k && last k) ∙ sym (list_all-push is_plain (take i s) (slice_index s i))
    ∙ sym (ap (list_all is_plain) (take_more s i 0 lt))

-- no byte is escaped
pub escape_plain : (s : List ℕ) → list_all is_plain s ≡ true → escape s ≡ s
escape_plain [] h = refl
escape_plain (x ∷ s) h =
    let parts = and_parts (is_plain x) (list_all is_plain s) h in
    let none = or_parts _ _ (not-true (is_stop x) parts.0) in
    let tests = or_parts (x == 34) _ none.0 in
    let one = escape_byte_plain x (eqb-false x 34 tests.0) (eqb-false x 92 tests.1) (ltb-false x 32
    none.1) in
    ap₂ (λ a b. a ++ b) one (escape_plain s parts.1)
