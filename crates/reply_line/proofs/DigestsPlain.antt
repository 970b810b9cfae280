-- Digests stand in a string as they are.
use Rattle.std.proofs.Common.{◌≡◌, ◌∙◌, sym, ap, refl, ℕ, List, [], ◌∷◌, ◌++◌, take, drop, length, true, inl, inr, arith, codes, take-append-drop}
use Rattle.std.specs.Prelude.{◌&&◌}
use Rattle.std.specs.List.{list_all}
use Rattle.std.proofs.lemmas.Bool.{and_parts, or_cases}
use Rattle.std.proofs.lemmas.Bool.Decides.{nat_tests}
use Rattle.std.proofs.lemmas.List.Folds.{list_all-append}
use Rattle.std.proofs.lemmas.Slice.Eq.{bytes_eq-Decides}
use Rattle.json.specs.Run.{is_plain}
use Rattle.meta_types.specs.Text.{is_hexadecimal, is_hash, is_digest}

digit_plain : (byte : ℕ) → is_hexadecimal byte ≡ true → is_plain byte ≡ true
digit_plain byte h = grind (arith, nat_tests)

digits_plain : (s : List ℕ) → list_all is_hexadecimal s ≡ true → list_all is_plain s ≡ true
digits_plain [] h = refl
digits_plain (byte ∷ s) h =
    let both = and_parts (is_hexadecimal byte) (list_all is_hexadecimal s) h in
    λ i. digit_plain byte both.0 i && digits_plain s both.1 i

-- an algorithm's name and digits
hash_plain : (prefix : List ℕ) (digits : ℕ) (text : List ℕ) → list_all is_plain prefix ≡ true
    → is_hash prefix digits text ≡ true → list_all is_plain text ≡ true
hash_plain prefix digits text named h =
    let n = length prefix in
    let outer = and_parts _ _ h in
    let inner = and_parts _ _ outer.0 in
    let same : take n text ≡ prefix = (bytes_eq-Decides (take n text) prefix).0 inner.0 in
    let front : list_all is_plain (take n text) ≡ true = ap (list_all is_plain) same ∙ named in
    let rest : list_all is_plain (drop n text) ≡ true = digits_plain (drop n text) outer.1 in
    ap (list_all is_plain) (sym (take-append-drop n text))
    ∙ list_all-append is_plain (take n text) (drop n text) ∙ (λ i. front i && rest i)

-- no byte of a digest is escaped
pub digest_plain : (text : List ℕ) → is_digest text ≡ true → list_all is_plain text ≡ true
digest_plain text h = elim (or_cases _ _ h) [
  | inl short ↦ hash_plain (codes "sha256:") 64 text refl short
  | inr long ↦ hash_plain (codes "sha512:") 128 text refl long
]
