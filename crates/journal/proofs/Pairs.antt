-- How pairs of marks are counted.
use Rattle.std.proofs.Common.{◌≡◌, ◌∙◌, ap, sym, refl, ℕ, zero, suc, ◌+◌, ◌*◌, ◌<◌, ◌≤◌, ◌==◌, List, [], ◌∷◌, ◌++◌, length, take, drop, replicate, slice_index, get_or, true, false, inl, inr, arith}
use Rattle.std.specs.List.{list_any}
use Rattle.std.proofs.lemmas.Bool.{cases_Bool, true≢false, eqb-true}
use Rattle.std.proofs.lemmas.List.{drop_more, drop_all}
use Rattle.journal.proofs.TextLines.{or_false}
use Rattle.journal.specs.Head.{is_other, is_there, is_pair, pairs}

pub pairs_zeros : (n : ℕ) → pairs (replicate n 0) ≡ 0
pairs_zeros zero = refl
pairs_zeros (suc zero) = refl
pairs_zeros (suc (suc n)) = refl

pub zeros_at : (n i : ℕ) → get_or {A = ℕ} (replicate n 0) i 0 ≡ 0
zeros_at zero i = refl
zeros_at (suc n) zero = refl
zeros_at (suc n) (suc i) = zeros_at n i

pub no_others : (n : ℕ) → list_any is_other (replicate n 0) ≡ false
no_others zero = refl
no_others (suc n) = no_others n

pub none_there : (n : ℕ) → list_any is_there (replicate n 0) ≡ false
none_there zero = refl
none_there (suc n) = none_there n

pub zero_is : (byte : ℕ) → (byte == 0) ≡ true → byte ≡ 0
zero_is byte is = eqb-true byte 0 is

not_there : (byte : ℕ) → is_there byte ≡ false → byte ≡ 0
not_there byte none = elim (cases_Bool (byte == 0)) [
  | inl is ↦ zero_is byte is
  | inr other ↦ absurd (true≢false (rw other at none))
]

-- a text of which no byte is there
pub all_zeros : (bytes : List ℕ) → list_any is_there bytes ≡ false
    → bytes ≡ replicate (length bytes) 0
all_zeros [] none = refl
all_zeros (byte ∷ bytes) none =
    let both = or_false (is_there byte) (list_any is_there bytes) none in
    ap (λ (b : ℕ). b ∷ bytes) (not_there byte both.0)
    ∙ ap (λ (t : List ℕ). 0 ∷ t) (all_zeros bytes both.1)

pub pairs_none : (marks : List ℕ) → get_or marks 0 0 ≡ 0 → get_or marks 1 0 ≡ 0 → pairs marks ≡ 0
pairs_none [] one other = refl
pairs_none (a ∷ []) one other = refl
pairs_none (a ∷ b ∷ marks) one other =
    ap (λ (x : ℕ). pairs (x ∷ b ∷ marks)) one ∙ ap (λ (y : ℕ). pairs (0 ∷ y ∷ marks)) other

count_one : (a b : ℕ) (rest : List ℕ) → is_pair a b ≡ true
    → pairs (a ∷ b ∷ rest) ≡ suc (pairs rest)
count_one a b rest is = rw is refl

count_none : (a b : ℕ) (rest : List ℕ) → is_pair a b ≡ false → pairs (a ∷ b ∷ rest) ≡ 0
count_none a b rest is = rw is refl

-- ---- counting

pub one_pair_more : (marks : List ℕ) (k : ℕ) → 2 * k + 1 < length marks
    → is_pair (slice_index marks (2 * k)) (slice_index marks (2 * k + 1)) ≡ true
    → pairs (drop (2 * k) marks) ≡ suc (pairs (drop (2 * (k + 1)) marks))
one_pair_more marks k lt is =
    let next : 2 * k + 1 + 1 ≡ 2 * (k + 1) = omega arith in
    ap pairs (drop_more marks (2 * k) 0 (omega (arith, lt))
    ∙ ap (λ (t : List ℕ). get_or marks (2 * k) 0 ∷ t) (drop_more marks (2 * k + 1) 0 lt))
    ∙ count_one (get_or marks (2 * k) 0) (get_or marks (2 * k + 1) 0)
    (drop (2 * k + 1 + 1) marks) is
    ∙ ap (λ (n : ℕ). suc (pairs (drop n marks))) next

pub no_pair_more : (marks : List ℕ) (k : ℕ) → 2 * k + 1 < length marks
    → is_pair (slice_index marks (2 * k)) (slice_index marks (2 * k + 1)) ≡ false
    → pairs (drop (2 * k) marks) ≡ 0
no_pair_more marks k lt is =
    ap pairs (drop_more marks (2 * k) 0 (omega (arith, lt))
    ∙ ap (λ (t : List ℕ). get_or marks (2 * k) 0 ∷ t) (drop_more marks (2 * k + 1) 0 lt))
    ∙ count_none (get_or marks (2 * k) 0) (get_or marks (2 * k + 1) 0)
    (drop (2 * k + 1 + 1) marks) is

pub no_mark_more : (marks : List ℕ) (k : ℕ) → length marks ≤ 2 * k
    → pairs (drop (2 * k) marks) ≡ 0
no_mark_more marks k le = ap pairs (drop_all (2 * k) marks le)

-- ---- a pair more

one_step : (k : ℕ) → 2 * suc k ≡ suc (suc (2 * k))
one_step k = omega arith

front_pair : (a b : ℕ) (marks : List ℕ) (k : ℕ) → pairs (a ∷ b ∷ marks) ≡ suc k
    → (is_pair a b ≡ true) × (pairs marks ≡ k)
front_pair a b marks k is = elim (cases_Bool (is_pair a b)) [
  | inl there ↦ (
    there,
    (let e : suc (pairs marks) ≡ suc k = sym (count_one a b marks there) ∙ is in
        omega (arith, e)),
  )
  | inr none ↦ absurd (let e : 0 ≡ suc k = sym (count_none a b marks none) ∙ is in
      omega (arith, e))
]

pub pairs_put : (k : ℕ) (marks : List ℕ) (a b : ℕ) (rest : List ℕ) → pairs marks ≡ k
    → is_pair a b ≡ true → pairs rest ≡ 0
    → pairs (take (2 * k) marks ++ (a ∷ b ∷ rest)) ≡ k + 1
pairs_put zero marks a b rest are is none = count_one a b rest is ∙ ap suc none
pairs_put (suc k) [] a b rest are is none = absurd (omega (arith, are))
pairs_put (suc k) (x ∷ []) a b rest are is none = absurd (omega (arith, are))
pairs_put (suc k) (x ∷ y ∷ marks) a b rest are is none =
    let front = front_pair x y marks k are in
    let more = pairs_put k marks a b rest front.1 is none in
    let next : suc (k + 1) ≡ suc k + 1 = omega arith in
    ap (λ (n : ℕ). pairs (take n (x ∷ y ∷ marks) ++ (a ∷ b ∷ rest))) (one_step k)
    ∙ count_one x y (take (2 * k) marks ++ (a ∷ b ∷ rest)) front.0 ∙ ap suc more ∙ next

pub pairs_stop : (k : ℕ) (marks : List ℕ) (a b : ℕ) (rest : List ℕ) → pairs marks ≡ k
    → is_pair a b ≡ false → pairs (take (2 * k) marks ++ (a ∷ b ∷ rest)) ≡ k
pairs_stop zero marks a b rest are is = count_none a b rest is
pairs_stop (suc k) [] a b rest are is = absurd (omega (arith, are))
pairs_stop (suc k) (x ∷ []) a b rest are is = absurd (omega (arith, are))
pairs_stop (suc k) (x ∷ y ∷ marks) a b rest are is =
    let front = front_pair x y marks k are in
    let more = pairs_stop k marks a b rest front.1 is in
    ap (λ (n : ℕ). pairs (take n (x ∷ y ∷ marks) ++ (a ∷ b ∷ rest))) (one_step k)
    ∙ count_one x y (take (2 * k) marks ++ (a ∷ b ∷ rest)) front.0 ∙ ap suc more
