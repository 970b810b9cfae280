-- How often a number stands in a list.
use Rattle.std.proofs.Common.{◌≡◌, ◌≢◌, ℕ, zero, suc, ◌+◌, ◌<◌, ◌≤◌, List, [], ◌∷◌, ◌++◌, length, true, false, cond, refl, ap, ◌∙◌, eq-eqb, ne_eqb, arith}
use Rattle.std.specs.Prelude.{All, Contains, ◌==◌}
use Rattle.std.proofs.lemmas.List.Sums.{sum_by-cons, sum_by-append, sum_by_push}
use Rattle.std.proofs.lemmas.List.Elements.{All-head, All-tail, All-cons, All-nil}
use native.Mathlib.Decide.{ℕ_discrete}
use mathlib.Core.Logic.{dite}
use Rattle.mark_core.specs.Bits.{times}

-- 1 where the numbers are one
abbrev pub one_if : ℕ → ℕ → ℕ
one_if x n = cond (x == n) 1 0

-- the first counts by itself
pub times-cons : (n x : ℕ) (xs : List ℕ) → times n (x ∷ xs) ≡ one_if x n + times n xs
times-cons n x xs = sum_by-cons (λ y. one_if y n) x xs

-- counts of two parts add up
pub times-append : (n : ℕ) (xs ys : List ℕ) → times n (xs ++ ys) ≡ times n xs + times n ys
times-append n xs ys = sum_by-append (λ y. one_if y n) xs ys

-- the last counts by itself
pub times_push : (n : ℕ) (xs : List ℕ) (x : ℕ) → times n (xs ++ x ∷ []) ≡ times n xs + one_if x n
times_push n xs x = sum_by_push (λ y. one_if y n) xs x

-- a number is itself
pub one_if_same : (n : ℕ) → one_if n n ≡ 1
one_if_same n = ap (λ b. cond b 1 0) (eq-eqb n n refl)

-- and no other
pub one_if_other : (x n : ℕ) → x ≢ n → one_if x n ≡ 0
one_if_other x n other = ap (λ b. cond b 1 0) (ne_eqb x n other)

-- what stands in a list stands at a place
pub contained : (n : ℕ) (xs : List ℕ) → 0 < times n xs → Contains xs n
contained n [] h = absurd (omega arith)
contained n (x ∷ xs) h =
    dite (ℕ_discrete x n) (λ (e : x ≡ n). (0, omega arith, e))
    (λ (ne : x ≢ n).
    let a = times-cons n x xs in
    let b = one_if_other x n ne in
    let c : Contains xs n = contained n xs (omega arith) in
    (suc c.0, omega arith, c.2))

-- what stands at a place is counted there
pub counted : (n : ℕ) (xs : List ℕ) → Contains xs n → 0 < times n xs
counted n [] c = absurd (omega arith)
counted n (x ∷ xs) (zero, inside, e) =
    let a = times-cons n x xs in
    let b : one_if x n ≡ 1 = ap (λ y. one_if y n) e ∙ one_if_same n in
    omega arith
counted n (x ∷ xs) (suc k, inside, e) =
    let h : 0 < times n xs = counted n xs (k, omega arith, e) in
    let a = times-cons n x xs in
    omega arith

-- the list without n
without : ℕ → List ℕ → List ℕ
without n [] = []
without n (x ∷ xs) = cond (x == n) (without n xs) (x ∷ without n xs)

-- what was left out is the count of n
length-without : (n : ℕ) (xs : List ℕ) → length (without n xs) + times n xs ≡ length xs
unfolding without
length-without n [] = refl
length-without n (x ∷ xs) =
    let ih : length (without n xs) + times n xs ≡ length xs = length-without n xs in
    elim (x == n)
    as (λ b. times n (x ∷ xs) ≡ cond b 1 0 + times n xs
    → length (cond b (without n xs) (x ∷ without n xs)) + times n (x ∷ xs) ≡ suc (length xs))
    [ true ↦ λ t. omega arith | false ↦ λ t. omega arith ] (times-cons n x xs)

-- nothing is added to any count
times-without : (n k : ℕ) (xs : List ℕ) → times k (without n xs) ≤ times k xs
unfolding without
times-without n k [] = omega arith
times-without n k (x ∷ xs) =
    let ih : times k (without n xs) ≤ times k xs = times-without n k xs in
    let t = times-cons k x xs in
    let t' = times-cons k x (without n xs) in
    elim (x == n)
    as (λ b. times k (cond b (without n xs) (x ∷ without n xs)) ≤ times k (x ∷ xs))
    [ true ↦ omega arith | false ↦ omega arith ]

-- what is left is below n where nothing is above it
below-without : (n : ℕ) (xs : List ℕ) → All (λ x. x < suc n) xs → All (λ x. x < n) (without n xs)
unfolding without
below-without n [] h = All-nil (λ x. x < n)
below-without n (x ∷ xs) h =
    let rest : All (λ x. x < n) (without n xs) =
    below-without n xs (All-tail (λ x. x < suc n) x xs h) in
    let here : x < suc n = All-head (λ x. x < suc n) x xs h in
    dite (ℕ_discrete x n)
    (λ (e : x ≡ n). let b : (x == n) ≡ true = eq-eqb x n e in rw b rest)
    (λ (ne : x ≢ n).
    let b : (x == n) ≡ false = ne_eqb x n ne in
    rw b (All-cons (λ x. x < n) x (without n xs) (omega arith) rest))

-- a list of numbers below n, none twice, has at most n
pub length_distinct : (n : ℕ) (xs : List ℕ) → All (λ x. x < n) xs → ((x : ℕ) → times x xs ≤ 1)
    → length xs ≤ n
length_distinct n [] below once = omega arith
length_distinct zero (x ∷ xs) below once =
    absurd (let h : x < 0 = All-head (λ x. x < 0) x xs below in omega arith)
length_distinct (suc n) (x ∷ xs) below once =
    let ys : List ℕ = without n (x ∷ xs) in
    let still : (k : ℕ) → times k ys ≤ 1 =
    λ k. let a = times-without n k (x ∷ xs) in let b = once k in omega arith in
    let ih : length ys ≤ n = length_distinct n ys (below-without n (x ∷ xs) below) still in
    let e : length ys + times n (x ∷ xs) ≡ length (x ∷ xs) = length-without n (x ∷ xs) in
    let b = once n in
    omega arith
