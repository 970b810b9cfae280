-- Short names stand in a string as they are.
use Rattle.std.proofs.Common.{◌≡◌, refl, ℕ, List, [], ◌∷◌, true, arith}
use Rattle.std.specs.Prelude.{◌&&◌, nat_le, length}
use Rattle.std.specs.List.{list_all}
use Rattle.std.proofs.lemmas.Bool.{and_parts}
use Rattle.std.proofs.lemmas.Bool.Decides.{nat_tests}
use Rattle.json.specs.Run.{is_plain}
use Rattle.meta_types.specs.Text.{is_letter_or_digit, is_short_name_byte, is_short_name}

letter_plain : (byte : ℕ) → is_letter_or_digit byte ≡ true → is_plain byte ≡ true
letter_plain byte h = grind (arith, nat_tests)

byte_plain : (byte : ℕ) → is_short_name_byte byte ≡ true → is_plain byte ≡ true
byte_plain byte h = grind (arith, nat_tests)

bytes_plain : (s : List ℕ) → list_all is_short_name_byte s ≡ true → list_all is_plain s ≡ true
bytes_plain [] h = refl
bytes_plain (byte ∷ s) h =
    let both = and_parts (is_short_name_byte byte) (list_all is_short_name_byte s) h in
    λ i. byte_plain byte both.0 i && bytes_plain s both.1 i

-- no byte of a short name is escaped
pub short_name_plain : (text : List ℕ) → is_short_name text ≡ true → list_all is_plain text ≡ true
short_name_plain [] h = refl
short_name_plain (first ∷ rest) h =
    let outer = and_parts (is_letter_or_digit first && list_all is_short_name_byte rest) (nat_le
    (length rest) 75) h in
    let inner = and_parts (is_letter_or_digit first) (list_all is_short_name_byte rest) outer.0 in
    λ i. letter_plain first inner.0 i && bytes_plain rest inner.1 i
