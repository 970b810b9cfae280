-- From where on a text is zeros.
use Rattle.std.proofs.Common.{◌≡◌, ◌∙◌, ap, sym, subst, ℕ, ◌+◌, ◌-◌, ◌≤◌, ◌<◌, List, ◌++◌, take, drop, replicate, length, get_or, ◌∷◌, arith, length-append}
use Rattle.std.proofs.lemmas.List.{drop-drop, drop_at, drop-append-le, replicate-append-replicate, drop_more, length-take-le}
use Rattle.std.proofs.Math.Seq.{take-add}
use Rattle.journal.specs.Reads.{ZerosFrom}

-- a block of zeros more
pub none_more : (text block : List ℕ) (till last : ℕ) → last ≡ 0
    → drop last block ≡ replicate (length block - last) 0 → ZerosFrom till text
    → ZerosFrom till (text ++ block)
none_more text block till last none is zeros =
    let both = length-append text block in
    let whole : length block - 0 ≡ length block = omega arith in
    let all : block ≡ replicate (length block) 0 = rw none at is
    ∙ ap (λ (n : ℕ). replicate n 0) whole in
    let count : length text - till + length block ≡ length (text ++ block) - till =
    omega (arith, both, zeros.0) in (
      omega (arith, both, zeros.0),
      drop-append-le till text block zeros.0
          ∙ ap (λ (t : List ℕ). t ++ block) zeros.1
          ∙ ap (λ (t : List ℕ). replicate (length text - till) 0 ++ t) all
          ∙ replicate-append-replicate (length text - till) (length block) 0
          ∙ ap (λ (n : ℕ). replicate n 0) count,
    )

-- a block that has other bytes
pub some_more : (text block : List ℕ) (at last : ℕ) → length text ≡ at → last ≤ length block
    → drop last block ≡ replicate (length block - last) 0 → ZerosFrom (at + last) (text ++ block)
some_more text block at last size within is =
    let both = length-append text block in
    let count : length block - last ≡ length (text ++ block) - (at + last) =
    omega (arith, both, size) in (
      omega (arith, both, size, within),
      sym (drop-drop last at (text ++ block)) ∙ ap (drop last) (drop_at text block at size) ∙ is
          ∙ ap (λ (n : ℕ). replicate n 0) count,
    )

-- a part of a file more
pub zeros_more : (text block : List ℕ) (at count till next : ℕ) → at ≤ length text
    → block ≡ take count (drop at text)
    → ((front : List ℕ) → length front ≡ at → ZerosFrom till front
    → ZerosFrom next (front ++ block)) → ZerosFrom till (take at text)
    → ZerosFrom next (take (at + count) text)
zeros_more text block at count till next within is more zeros =
    subst (λ (t : List ℕ). ZerosFrom next t)
    (ap (λ (b : List ℕ). take at text ++ b) is ∙ sym (take-add at count text))
    (more (take at text) (length-take-le at text within) zeros)

pub one_zero_more : (text : List ℕ) (at : ℕ) → 0 < at → at ≤ length text
    → get_or text (at - 1) 0 ≡ 0 → drop at text ≡ replicate (length text - at) 0
    → drop (at - 1) text ≡ replicate (length text - (at - 1)) 0
one_zero_more text at some within here is =
    let next : at - 1 + 1 ≡ at = omega (arith, some) in
    let count : length text - (at - 1) ≡ 1 + (length text - at) = omega (arith, some, within) in
    drop_more text (at - 1) 0 (omega (arith, some, within))
    ∙ ap (λ (b : ℕ). b ∷ drop (at - 1 + 1) text) here
    ∙ ap (λ (n : ℕ). 0 ∷ drop n text) next
    ∙ ap (λ (t : List ℕ). 0 ∷ t) is
    ∙ replicate-append-replicate 1 (length text - at) 0
    ∙ ap (λ (n : ℕ). replicate n 0) (sym count)
