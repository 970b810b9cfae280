-- Keys that reference content, by what follows the key of content.
use Rattle.std.proofs.Common.{◌≡◌, ℕ, ◌≤◌, List, [], ◌∷◌, ◌++◌, length, take, drop, true}
use Rattle.std.proofs.Common.{false, nat_eq, refl, sym, ap, ◌∙◌, arith, inl, inr}
use Rattle.std.specs.Prelude.{◌||◌, ◌&&◌, slice_index_or, bytes_eq, codes}
use Rattle.std.proofs.lemmas.Bool.{cases_eq, eq-eqb, ne_eqb, false_from_ne_true}
use Rattle.std.proofs.lemmas.List.{take-append-drop}
use Rattle.std.proofs.lemmas.Slice.Eq.{bytes_eq-Decides}
use Rattle.meta_types.specs.Text.{Text, begins_with}
use Rattle.meta_types.specs.CollectorLabels.{is_content_key, content_ref_key}

-- the key of content alone
pub alone : (rest : List ℕ) → length rest ≡ 0
    → is_content_key (content_ref_key ++ rest) ≡ true
alone [] none = refl
alone (byte ∷ rest) none = absurd (omega (arith, none))

-- the key of content and more: the next byte decides
pub more : (rest : List ℕ) → 1 ≤ length rest → is_content_key (content_ref_key ++ rest)
    ≡ (nat_eq (slice_index_or rest 0 0) 46 || nat_eq (slice_index_or rest 0 0) 47)
more [] some = absurd (omega (arith, some))
more (byte ∷ rest) some = λ i. turned 46 i || turned 47 i
  where
    turned : (sign : ℕ) → (nat_eq sign byte && true) ≡ nat_eq byte sign
    turned sign = elim (cases_eq byte sign) [
      | inl e ↦ rw (eq-eqb sign byte (sym e), eq-eqb byte sign e) refl
      | inr ne ↦ rw (ne_eqb sign byte (λ e. ne (sym e)), ne_eqb byte sign ne) refl
    ]

-- a key that isn't the key of content and a rest
pub not_content : (key : Text) → ((rest : List ℕ) → key ≡ content_ref_key ++ rest → ⊥)
    → is_content_key key ≡ false
not_content key other = λ i. equal i || apart (codes ".") i || apart (codes "/") i
  where
    equal : bytes_eq key content_ref_key ≡ false
    equal = false_from_ne_true (bytes_eq key content_ref_key)
        (λ t. other [] ((bytes_eq-Decides key content_ref_key).0 t))

    apart : (sign : Text) → begins_with (content_ref_key ++ sign) key ≡ false
    apart sign = false_from_ne_true (begins_with (content_ref_key ++ sign) key) (λ t.
        let n = length (content_ref_key ++ sign) in
        let front : content_ref_key ++ sign ≡ take n key
        = (bytes_eq-Decides (content_ref_key ++ sign) (take n key)).0 t in
        other (sign ++ drop n key)
        (sym (take-append-drop n key) ∙ ap (λ f. f ++ drop n key) (sym front)))
