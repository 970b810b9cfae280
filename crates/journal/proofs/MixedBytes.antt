-- What a mix of two selectors says.
use Rattle.std.proofs.Common.{◌≡◌, ◌⊎◌, ◌∙◌, ap, sym, refl, ℕ, ◌==◌, List, [], ◌∷◌, ◌++◌, slice_index, Bool, true, false, ◌&&◌, inl, inr}
use Rattle.std.specs.List.{list_any}
use Rattle.journal.specs.Crashes.{Mixes}
use Rattle.journal.proofs.TextLines.{or_false}
use Rattle.journal.specs.Head.{is_other}
use Rattle.journal.specs.Selector.{tail_counts, is_most, selector_byte, selector_bytes}
use Rattle.journal.proofs.Most.{most_kept}

ended : (byte : ℕ) (b : Bool) → byte ≡ 10 → ((byte == 10) && b) ≡ b
ended byte b is = ap (λ (n : ℕ). (n == 10) && b) is

byte_says : (w : Bool) → (selector_byte w == 43) ≡ w
byte_says true = refl
byte_says false = refl

pub none_other : (w : Bool) → list_any is_other (selector_bytes w) ≡ false
none_other true = refl
none_other false = refl

one_byte : (w : Bool) (a x : ℕ) → (x ≡ a) ⊎ (x ≡ selector_byte w)
    → ((x == 43) ≡ (a == 43)) ⊎ ((x == 43) ≡ w)
one_byte w a x which = elim which [
  | inl same ↦ inl (ap (λ (n : ℕ). n == 43) same)
  | inr new ↦ inr (ap (λ (n : ℕ). n == 43) new ∙ byte_says w)
]

pub says : (tail : List ℕ) → slice_index tail 4 ≡ 10
    → tail_counts tail ≡ is_most (slice_index tail 0) (slice_index tail 1) (slice_index tail 2)
says tail feed = ended (slice_index tail 4)
    (is_most (slice_index tail 0) (slice_index tail 1) (slice_index tail 2)) feed

-- a mix of an old selector and a new one says what one of both says
pub mixed_says : (w : Bool) (old mixed rest : List ℕ) → Mixes old (selector_bytes w) mixed
    → slice_index (old ++ rest) 4 ≡ 10
    → (slice_index (mixed ++ rest) 4 ≡ 10)
    × ((tail_counts (mixed ++ rest) ≡ tail_counts (old ++ rest))
    ⊎ (tail_counts (mixed ++ rest) ≡ w))
mixed_says w [] mixed rest mixes feed = absurd mixes
mixed_says w (a ∷ []) [] rest mixes feed = absurd mixes
mixed_says w (a ∷ []) (x ∷ mixed) rest mixes feed = absurd mixes.1
mixed_says w (a ∷ b ∷ []) [] rest mixes feed = absurd mixes
mixed_says w (a ∷ b ∷ []) (x ∷ []) rest mixes feed = absurd mixes.1
mixed_says w (a ∷ b ∷ []) (x ∷ y ∷ mixed) rest mixes feed = absurd mixes.1.1
mixed_says w (a ∷ b ∷ c ∷ []) [] rest mixes feed = absurd mixes
mixed_says w (a ∷ b ∷ c ∷ []) (x ∷ []) rest mixes feed = absurd mixes.1
mixed_says w (a ∷ b ∷ c ∷ []) (x ∷ y ∷ []) rest mixes feed = absurd mixes.1.1
mixed_says w (a ∷ b ∷ c ∷ []) (x ∷ y ∷ z ∷ []) rest mixes feed = (
  feed,
  (let before = says (a ∷ b ∷ c ∷ rest) feed in
      let after = says (x ∷ y ∷ z ∷ rest) feed in
      elim (most_kept (a == 43) (b == 43) (c == 43) (x == 43) (y == 43) (z == 43) w
      (one_byte w a x mixes.0) (one_byte w b y mixes.1.0) (one_byte w c z mixes.1.1.0)) [
        | inl same ↦ inl (after ∙ same ∙ sym before)
        | inr new ↦ inr (after ∙ new)
      ]),
)
mixed_says w (a ∷ b ∷ c ∷ []) (x ∷ y ∷ z ∷ more ∷ mixed) rest mixes feed = absurd mixes.1.1.1
mixed_says w (a ∷ b ∷ c ∷ d ∷ old) [] rest mixes feed = absurd mixes
mixed_says w (a ∷ b ∷ c ∷ d ∷ old) (x ∷ []) rest mixes feed = absurd mixes.1
mixed_says w (a ∷ b ∷ c ∷ d ∷ old) (x ∷ y ∷ []) rest mixes feed = absurd mixes.1.1
mixed_says w (a ∷ b ∷ c ∷ d ∷ old) (x ∷ y ∷ z ∷ mixed) rest mixes feed = absurd mixes.1.1.1

-- no byte of a mix is another
pub mixed_none : (old new mixed : List ℕ) → Mixes old new mixed → list_any is_other old ≡ false
    → list_any is_other new ≡ false → list_any is_other mixed ≡ false
mixed_none [] [] [] mixes before after = refl
mixed_none [] [] (x ∷ mixed) mixes before after = absurd mixes
mixed_none [] (b ∷ new) mixed mixes before after = absurd mixes
mixed_none (a ∷ old) [] mixed mixes before after = absurd mixes
mixed_none (a ∷ old) (b ∷ new) [] mixes before after = absurd mixes
mixed_none (a ∷ old) (b ∷ new) (x ∷ mixed) mixes before after =
    let was = or_false (is_other a) (list_any is_other old) before in
    let now = or_false (is_other b) (list_any is_other new) after in
    let byte : is_other x ≡ false = elim mixes.0 [
      | inl same ↦ ap is_other same ∙ was.0
      | inr put ↦ ap is_other put ∙ now.0
    ] in
    rw byte (mixed_none old new mixed mixes.1 was.1 now.1)
