-- Zeros over a file, piece by piece.
use Rattle.std.proofs.Common.{◌≡◌, ◌⊎◌, ◌∙◌, ap, sym, refl, subst, ℕ, zero, suc, ◌+◌, ◌≤◌, List, [], ◌∷◌, ◌++◌, take, drop, replicate, length, inl, inr, arith, append_assoc}
use Rattle.std.proofs.lemmas.List.{append-nil, take-append-drop, take_at, drop_at, drop-drop, drop_all, length-replicate, replicate-append-replicate}
use Rattle.journal.specs.Crashes.{Only, Holes, Mixes, PutCrash, written}

-- ---- bytes that stand or are lost

all_there : (text : List ℕ) → Holes text text
all_there [] = tt
all_there (b ∷ text) = (inr refl, all_there text)

holes_append : (a b c d : List ℕ) → Holes a c → Holes b d → Holes (a ++ b) (c ++ d)
holes_append [] b [] d one other = other
holes_append [] b (y ∷ c) d one other = absurd one
holes_append (x ∷ a) b [] d one other = absurd one
holes_append (x ∷ a) b (y ∷ c) d one other = (one.0, holes_append a b c d one.1 other)

holes_again : (a b c : List ℕ) → Holes a b → Holes b c → Holes a c
holes_again [] [] c one other = other
holes_again [] (y ∷ b) c one other = absurd one
holes_again (x ∷ a) [] c one other = absurd one
holes_again (x ∷ a) (y ∷ b) [] one other = absurd other
holes_again (x ∷ a) (y ∷ b) (z ∷ c) one other = (
  elim other.0 [
    | inl lost ↦ inl lost
    | inr there ↦ elim one.0 [ inl gone ↦ inl (there ∙ gone) | inr same ↦ inr (there ∙ same) ]
  ],
  holes_again a b c one.1 other.1,
)

-- zeros that a crash mixed with what stood there
mixed_holes : (old mixed : List ℕ) (n : ℕ) → Mixes old (replicate n 0) mixed → Holes old mixed
mixed_holes [] [] n mixes = tt
mixed_holes [] (z ∷ mixed) zero mixes = absurd mixes
mixed_holes [] (z ∷ mixed) (suc n) mixes = absurd mixes
mixed_holes (x ∷ old) [] zero mixes = absurd mixes
mixed_holes (x ∷ old) [] (suc n) mixes = absurd mixes
mixed_holes (x ∷ old) (z ∷ mixed) zero mixes = absurd mixes
mixed_holes (x ∷ old) (z ∷ mixed) (suc n) mixes = (
  elim mixes.0 [ inl same ↦ inr same | inr lost ↦ inl lost ],
  mixed_holes old mixed n mixes.1,
)

mixed_long : (old new mixed : List ℕ) → Mixes old new mixed → length mixed ≡ length new
mixed_long [] [] [] mixes = refl
mixed_long [] [] (z ∷ mixed) mixes = absurd mixes
mixed_long [] (y ∷ new) mixed mixes = absurd mixes
mixed_long (x ∷ old) [] mixed mixes = absurd mixes
mixed_long (x ∷ old) (y ∷ new) [] mixes = absurd mixes
mixed_long (x ∷ old) (y ∷ new) (z ∷ mixed) mixes = ap suc (mixed_long old new mixed mixes.1)

written_holes : (text mixed : List ℕ) (at n : ℕ)
    → Mixes (take n (drop at text)) (replicate n 0) mixed → Holes text (written at mixed text)
written_holes text mixed at n mixes =
    let long : length mixed ≡ n =
    mixed_long (take n (drop at text)) (replicate n 0) mixed mixes ∙ length-replicate n 0 in
    let whole : take at text ++ (take n (drop at text) ++ drop (at + length mixed) text) ≡ text =
    ap (λ (k : ℕ). take at text ++ (take n (drop at text) ++ drop (at + k) text)) long
    ∙ ap (λ (t : List ℕ). take at text ++ (take n (drop at text) ++ t))
    (sym (drop-drop n at text))
    ∙ ap (λ (t : List ℕ). take at text ++ t) (take-append-drop n (drop at text))
    ∙ take-append-drop at text in
    subst (λ (t : List ℕ). Holes t (written at mixed text)) whole
    (holes_append (take at text) (take n (drop at text) ++ drop (at + length mixed) text)
    (take at text) (mixed ++ drop (at + length mixed) text) (all_there (take at text))
    (holes_append (take n (drop at text)) (drop (at + length mixed) text) mixed
    (drop (at + length mixed) text) (mixed_holes (take n (drop at text)) mixed n mixes)
    (all_there (drop (at + length mixed) text))))

-- ---- a piece

pub piece_left : (text zeros : List ℕ) (at count : ℕ) (old new : List ℕ → Type 0)
    → zeros ≡ replicate count 0 → Only text old
    → ((c : List ℕ) → new c → old c)
    ⊎ ((at + length zeros ≤ length text) × PutCrash text at zeros new) → (c : List ℕ) → new c
    → Holes text c
piece_left text zeros at count old new are only crash c now = elim crash [
  | inl before ↦ subst (Holes text) (sym (only c (before c now))) (all_there text)
  | inr cut ↦
      let out = cut.1 c now in
      let long : count ≡ length zeros = sym (ap length are ∙ length-replicate count 0) in
      subst (Holes text) (sym out.2) (written_holes text out.0 at (length zeros)
      (subst (λ (z : List ℕ). Mixes (take (length zeros) (drop at text)) z out.0)
      (are ∙ ap (λ (n : ℕ). replicate n 0) long) out.1))
]

pub nothing_lost : (text c : List ℕ) → c ≡ text → Holes text c
nothing_lost text c same = subst (Holes text) (sym same) (all_there text)

-- ---- the front of a file

-- zeros up to a place
abbrev pub Blanked : ℕ → List ℕ → List ℕ
Blanked at text = replicate at 0 ++ drop at text

pub blanked_holes : (at : ℕ) (text : List ℕ) → at ≤ length text → Holes text (Blanked at text)
blanked_holes zero text within = all_there text
blanked_holes (suc at) [] within = absurd (omega (arith, within))
blanked_holes (suc at) (b ∷ text) within =
    (inl refl, blanked_holes at text (omega (arith, within)))

pub holes_then : (at : ℕ) (text now c : List ℕ) → at ≤ length text → now ≡ Blanked at text
    → Holes now c → Holes text c
holes_then at text now c within is left =
    holes_again text now c
    (subst (Holes text) (sym is) (blanked_holes at text within)) left

pub blanked_long : (at : ℕ) (text : List ℕ) → at ≤ length text
    → length (Blanked at text) ≡ length text
blanked_long zero text within = refl
blanked_long (suc at) [] within = absurd (omega (arith, within))
blanked_long (suc at) (b ∷ text) within = ap suc (blanked_long at text (omega (arith, within)))

pub blanked_more : (at count : ℕ) (text : List ℕ)
    → written at (replicate count 0) (Blanked at text) ≡ Blanked (at + count) text
blanked_more at count text =
    let front = replicate {A = ℕ} at 0 in
    let block = replicate {A = ℕ} count 0 in
    let rest = drop at text in
    let size : length front ≡ at = length-replicate at 0 in
    let long : length block ≡ count = length-replicate count 0 in
    ap (λ (t : List ℕ). t ++ (block ++ drop (at + length block) (front ++ rest)))
    (take_at front rest at size)
    ∙ ap (λ (n : ℕ). front ++ (block ++ drop (at + n) (front ++ rest))) long
    ∙ ap (λ (t : List ℕ). front ++ (block ++ t))
    (sym (drop-drop count at (front ++ rest)) ∙ ap (drop count) (drop_at front rest at size)
    ∙ drop-drop count at text)
    ∙ sym (append_assoc front block (drop (at + count) text))
    ∙ ap (λ (t : List ℕ). t ++ drop (at + count) text) (replicate-append-replicate at count 0)

pub blanked_all : (text : List ℕ) (n : ℕ) → n ≡ length text → Blanked n text ≡ replicate n 0
blanked_all text n is =
    ap (λ (t : List ℕ). replicate n 0 ++ t) (drop_all n text (omega (arith, is)))
    ∙ append-nil (replicate n 0)
