-- Zeros are put block by block.
use Rattle.std.proofs.Common.{◌≡◌, ◌⊎◌, ◌∙◌, ap, sym, refl, subst, ℕ, ◌+◌, ◌≤◌, List, [], ◌∷◌, ◌++◌, take, drop, replicate, length, inl, inr, arith, append_assoc, length-append, length-drop}
use Rattle.std.proofs.lemmas.List.{take-append-drop, drop-drop, take_at, drop_at, length-take-le, length-replicate, replicate-append-replicate}
use Rattle.journal.specs.Crashes.{Only, Holes, Mixes, written, PutCrash}
use Rattle.journal.proofs.Tearing.{both_holes, all_there}
use Rattle.journal.proofs.Recovering.{mixed_zeros, mixes_length, holes_length}

-- each byte is lost
all_lost : (text : List ℕ) → Holes text (replicate (length text) 0)
all_lost [] = tt
all_lost (b ∷ text) = (inl refl, all_lost text)

-- what is left behind a place
abbrev pub Left : ℕ → List ℕ → List ℕ → Type 0
Left at text c = (left : List ℕ) × Holes (drop at text) left × (c ≡ take at text ++ left)

pub left_whole : (text : List ℕ) (at : ℕ) → Left at text text
left_whole text at = (drop at text, all_there (drop at text), sym (take-append-drop at text))

-- a put of zeros that a crash cut short
pub left_of : (text : List ℕ) (at count : ℕ) (zeros : List ℕ) (old new : List ℕ → Type 0)
    → zeros ≡ replicate count 0 → Only text old
    → ((c : List ℕ) → new c → old c)
    ⊎ ((at + length zeros ≤ length text) × PutCrash text at zeros new) → (c : List ℕ) → new c
    → Left at text c
left_of text at count zeros old new are only crash c now = elim crash [
  | inl before ↦ subst (Left at text) (sym (only c (before c now))) (left_whole text at)
  | inr cut ↦
      let out = cut.1 c now in
      let k = length zeros in
      let rest = drop at text in
      let first = take k rest in
      let size : length first ≡ k = mixes_length first zeros out.0 out.1 in
      let long : k ≡ count = ap length are ∙ length-replicate count 0 in
      let mixed = mixed_zeros first out.0
      (subst (λ (z : List ℕ). Mixes first z out.0)
      (are ∙ ap (λ (n : ℕ). replicate n 0) (sym long ∙ sym size)) out.1) in
      let same : length out.0 ≡ k = holes_length first out.0 mixed ∙ size in (
        out.0 ++ drop k rest,
        subst (λ (t : List ℕ). Holes t (out.0 ++ drop k rest)) (take-append-drop k rest)
            (both_holes first (drop k rest) out.0 (drop k rest) mixed (all_there (drop k rest))),
        out.2 ∙ ap (λ (t : List ℕ). take at text ++ (out.0 ++ t))
            (ap (λ (n : ℕ). drop (at + n) text) same ∙ sym (drop-drop k at text)),
      )
]

module _ (text : List ℕ) (from k : ℕ) (fits : from + k ≤ length text) where
  abbrev zeros : List ℕ
  zeros = replicate k 0

  -- zeros up to here
  abbrev now : List ℕ
  now = written from zeros text

  long : length zeros ≡ k
  long = length-replicate k 0

  front_long : length (take from text ++ zeros) ≡ from + k
  front_long = let both = length-append (take from text) zeros in let one =
      length-take-le from text (omega (arith, fits)) in omega (arith, both, one, long)

  now_is : now ≡ (take from text ++ zeros) ++ drop (from + k) text
  now_is = ap (λ (n : ℕ). take from text ++ (zeros ++ drop (from + n) text)) long
      ∙ sym (append_assoc (take from text) zeros (drop (from + k) text))

  take_now : (at : ℕ) → at ≡ from + k → take at now ≡ take from text ++ zeros
  take_now at is = ap (take at) now_is
      ∙ take_at (take from text ++ zeros) (drop (from + k) text) at (front_long ∙ sym is)

  drop_now : (at : ℕ) → at ≡ from + k → drop at now ≡ drop (from + k) text
  drop_now at is = ap (drop at) now_is
      ∙ drop_at (take from text ++ zeros) (drop (from + k) text) at (front_long ∙ sym is)

  -- what is left behind these zeros is left behind their front
  pub left_more : (at : ℕ) (c : List ℕ) → at ≡ from + k → Left at now c → Left from text c
  left_more at c is left =
      let rest = drop from text in
      let size : length (take k rest) ≡ k =
      length-take-le k rest (let n = length-drop from text in omega (arith, n, fits)) in (
        zeros ++ left.0,
        subst (λ (t : List ℕ). Holes t (zeros ++ left.0))
            (ap (λ (t : List ℕ). take k rest ++ t) (sym (drop-drop k from text))
            ∙ take-append-drop k rest)
            (both_holes (take k rest) (drop (from + k) text) zeros left.0
            (subst (λ (n : ℕ). Holes (take k rest) (replicate n 0)) size
            (all_lost (take k rest)))
            (subst (λ (t : List ℕ). Holes t left.0) (drop_now at is) left.1)),
        left.2 ∙ ap (λ (t : List ℕ). t ++ left.0) (take_now at is)
            ∙ append_assoc (take from text) zeros left.0,
      )

  -- a block of zeros more
  pub written_more : (at count more : ℕ) → at ≡ from + k → more ≡ k + count
      → written at (replicate count 0) now ≡ written from (replicate more 0) text
  written_more at count more is all =
      let block = replicate {A = ℕ} count 0 in
      let size : length block ≡ count = length-replicate count 0 in
      let total : length (replicate {A = ℕ} more 0) ≡ more = length-replicate more 0 in
      let place : from + k + count ≡ from + more = omega (arith, all) in
      ap (λ (t : List ℕ). t ++ (block ++ drop (at + length block) now)) (take_now at is)
      ∙ ap (λ (n : ℕ). (take from text ++ zeros) ++ (block ++ drop (at + n) now)) size
      ∙ ap (λ (t : List ℕ). (take from text ++ zeros) ++ (block ++ t))
      (sym (drop-drop count at now) ∙ ap (drop count) (drop_now at is)
      ∙ drop-drop count (from + k) text ∙ ap (λ (n : ℕ). drop n text) place)
      ∙ append_assoc (take from text) zeros (block ++ drop (from + more) text)
      ∙ ap (λ (t : List ℕ). take from text ++ t)
      (sym (append_assoc zeros block (drop (from + more) text)))
      ∙ ap (λ (t : List ℕ). take from text ++ (t ++ drop (from + more) text))
      (replicate-append-replicate k count 0 ∙ ap (λ (n : ℕ). replicate n 0) (sym all))
      ∙ ap (λ (n : ℕ). take from text ++ (replicate more 0 ++ drop (from + n) text)) (sym total)

-- nothing was put yet
pub written_none : (text : List ℕ) (from : ℕ) → text ≡ written from (replicate 0 0) text
written_none text from =
    let same : from + 0 ≡ from = omega arith in
    sym (take-append-drop from text) ∙ ap (λ (n : ℕ). take from text ++ drop n text) (sym same)

pub written_length : (text : List ℕ) (from k : ℕ) → from + k ≤ length text
    → length (written from (replicate k 0) text) ≡ length text
written_length text from k fits =
    let size = ap length (now_is text from k fits) in
    let both = length-append (take from text ++ replicate k 0) (drop (from + k) text) in
    let front = front_long text from k fits in
    let back = length-drop (from + k) text in
    omega (arith, size, both, front, back, fits)
