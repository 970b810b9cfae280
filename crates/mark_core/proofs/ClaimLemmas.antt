-- What a claim adds to a list of claimed numbers.
use Rattle.std.proofs.Common.{◌≡◌, ◌≢◌, ◌⊎◌, ℕ, ◌+◌, ◌<◌, ◌≤◌, List, [], ◌∷◌, ◌++◌, Bool, true, false, cond, Some, None, length, get_or, refl, sym, ap, ◌∙◌, subst, inl, inr, ⊎_elim, arith}
use Rattle.std.specs.Prelude.{if◌then◌else◌, All}
use Rattle.std.proofs.lemmas.List.{length-append, get_or_append_left}
use Rattle.std.proofs.lemmas.List.Elements.{All-append, All-cons, All-nil, All-head, All-tail, All-weaker}
use Rattle.std.proofs.lemmas.Bool.Decides.{nat_tests}
use native.Mathlib.Decide.{ℕ_discrete}
use mathlib.Core.Logic.{dite}
use Rattle.mark_core.specs.Bits.{times}
use Rattle.mark_core.specs.Claims.{is_in, claim, claim_all}
use Rattle.mark_core.specs.Sound.{in_wait}
use Rattle.mark_core.proofs.Counts.{one_if, times_push, times-cons, one_if_same, one_if_other}

-- the numbers are claimed
abbrev pub Claimed : List ℕ → List ℕ → Type 0
Claimed claimed ns = All (λ t. 0 < times t claimed) ns

-- ---- the test
-- where the test says yes, the count is at least 1
pub yes-is_in : (n : ℕ) (xs : List ℕ) → is_in n xs ≡ true → 0 < times n xs
yes-is_in n xs h = grind (arith, nat_tests)

-- and where it says no, the count is 0
pub no-is_in : (n : ℕ) (xs : List ℕ) → is_in n xs ≡ false → times n xs ≡ 0
no-is_in n xs h = grind (arith, nat_tests)

-- a test says yes or no
true_or_false : (b : Bool) → (b ≡ true) ⊎ (b ≡ false)
true_or_false true = inl refl
true_or_false false = inr refl

-- ---- one claim
-- what is claimed is not claimed again
claim_known : (n : ℕ) (xs : List ℕ) → is_in n xs ≡ true → claim xs n ≡ xs
claim_known n xs h = ap (λ b. cond b xs (xs ++ n ∷ [])) h

-- what is not claimed goes behind the others
claim_fresh : (n : ℕ) (xs : List ℕ) → is_in n xs ≡ false → claim xs n ≡ xs ++ n ∷ []
claim_fresh n xs h = ap (λ b. cond b xs (xs ++ n ∷ [])) h

-- what holds of the list as it is, and with the number behind it, holds after the claim
after_claim : (P : List ℕ → Type 0) (t : ℕ) (xs : List ℕ)
    → (is_in t xs ≡ true → P xs) → (is_in t xs ≡ false → P (xs ++ t ∷ [])) → P (claim xs t)
after_claim P t xs known fresh =
    ⊎_elim
    (λ (e : is_in t xs ≡ true). subst P (sym (claim_known t xs e)) (known e))
    (λ (e : is_in t xs ≡ false). subst P (sym (claim_fresh t xs e)) (fresh e))
    (true_or_false (is_in t xs))

-- a claim adds one to the count of a number that then waits, and to no other
pub times-claim : (n t : ℕ) (xs : List ℕ)
    → times n (claim xs t) ≡ times n xs + in_wait n (if is_in t xs then None else Some t)
times-claim n t xs =
    let p = times_push n xs t in
    let q : times n (t ∷ []) ≡ one_if t n + 0 = times-cons n t [] in
    elim (is_in t xs)
    as (λ b. times n (cond b xs (xs ++ t ∷ [])) ≡ times n xs + in_wait n (cond b None (Some t)))
    [ true ↦ omega arith | false ↦ omega arith ]

-- what is claimed is there
pub claim_there : (t : ℕ) (xs : List ℕ) → 0 < times t (claim xs t)
claim_there t xs =
    after_claim (λ l. 0 < times t l) t xs (yes-is_in t xs)
    (λ e. let p = times_push t xs t in let o = one_if_same t in omega arith)

-- a claim makes no number stand twice
pub claim_once : (t : ℕ) (xs : List ℕ)
    → ((n : ℕ) → times n xs ≤ 1) → (n : ℕ) → times n (claim xs t) ≤ 1
claim_once t xs once n =
    let p = times_push n xs t in
    after_claim (λ l. times n l ≤ 1) t xs (λ e. once n)
    (λ (e : is_in t xs ≡ false).
    dite (ℕ_discrete t n)
    (λ (same : t ≡ n).
    let z : times n xs ≡ 0 = ap (λ k. times k xs) (sym same) ∙ no-is_in t xs e in
    let o : one_if t n ≡ 1 = ap (λ k. one_if k n) same ∙ one_if_same n in
    omega arith)
    (λ (other : t ≢ n). let z = one_if_other t n other in let o = once n in omega arith))

-- a fact of all claimed, and of the number, is one of all claimed afterwards
pub claim_all_of : (P : ℕ → Type 0) (t : ℕ) (xs : List ℕ) → All P xs → P t → All P (claim xs t)
claim_all_of P t xs all here =
    after_claim (All P) t xs (λ e. all)
    (λ e. All-append P xs (t ∷ []) all (All-cons P t [] here (All-nil P)))

-- a claim takes nothing away
pub claim_keeps : (n t : ℕ) (xs : List ℕ) → times n xs ≤ times n (claim xs t)
claim_keeps n t xs = let e = times-claim n t xs in omega arith

-- a claim makes the list no shorter
length-claim : (t : ℕ) (xs : List ℕ) → length xs ≤ length (claim xs t)
length-claim t xs =
    after_claim (λ l. length xs ≤ length l) t xs (λ e. omega arith)
    (λ e. let l = length-append xs (t ∷ []) in omega arith)

-- a claim changes no place of the list
get_or-claim : (t : ℕ) (xs : List ℕ) (k : ℕ) → k < length xs
    → get_or (claim xs t) k 0 ≡ get_or xs k 0
get_or-claim t xs k inside =
    after_claim (λ l. get_or l k 0 ≡ get_or xs k 0) t xs (λ e. refl)
    (λ e. get_or_append_left xs (t ∷ []) 0 k inside)

-- ---- many claims
-- one claim more at the end
pub claim_all-push : (xs ns : List ℕ) (n : ℕ)
    → claim_all xs (ns ++ n ∷ []) ≡ claim (claim_all xs ns) n
claim_all-push xs [] n = refl
claim_all-push xs (k ∷ ns) n = claim_all-push (claim xs k) ns n

-- a fact of all claimed, and of the numbers, by one claim after another
pub claim_all-all_of : (P : ℕ → Type 0) (xs ns : List ℕ) → All P xs → All P ns
    → All P (claim_all xs ns)
claim_all-all_of P xs [] all here = all
claim_all-all_of P xs (n ∷ ns) all here =
    claim_all-all_of P (claim xs n) ns (claim_all_of P n xs all (All-head P n ns here))
    (All-tail P n ns here)

-- no number stands twice, by one claim after another
pub claim_all-once : (xs ns : List ℕ)
    → ((n : ℕ) → times n xs ≤ 1) → (n : ℕ) → times n (claim_all xs ns) ≤ 1
claim_all-once xs [] once n = once n
claim_all-once xs (k ∷ ns) once n = claim_all-once (claim xs k) ns (claim_once k xs once) n

-- nothing is taken away, by one claim after another
pub claim_all-keeps : (n : ℕ) (xs ns : List ℕ) → times n xs ≤ times n (claim_all xs ns)
claim_all-keeps n xs [] = omega arith
claim_all-keeps n xs (k ∷ ns) =
    let a = claim_keeps n k xs in
    let b : times n (claim xs k) ≤ times n (claim_all (claim xs k) ns) =
    claim_all-keeps n (claim xs k) ns in
    omega arith

-- each number is there after its claim, and stays
pub claim_all-there : (xs ns : List ℕ) → Claimed (claim_all xs ns) ns
claim_all-there xs [] = All-nil (λ t. 0 < times t xs)
claim_all-there xs (n ∷ ns) =
    let here : 0 < times n (claim_all (claim xs n) ns) =
    (let a = claim_there n xs in let b = claim_all-keeps n (claim xs n) ns in omega arith) in
    All-cons (λ t. 0 < times t (claim_all (claim xs n) ns)) n ns here
    (claim_all-there (claim xs n) ns)

-- the list gets no shorter, by one claim after another
pub length-claim_all : (xs ns : List ℕ) → length xs ≤ length (claim_all xs ns)
length-claim_all xs [] = omega arith
length-claim_all xs (n ∷ ns) =
    let a = length-claim n xs in
    let b : length (claim xs n) ≤ length (claim_all (claim xs n) ns) =
    length-claim_all (claim xs n) ns in
    omega arith

-- no place changes, by one claim after another
pub get_or-claim_all : (xs ns : List ℕ) (k : ℕ)
    → k < length xs → get_or (claim_all xs ns) k 0 ≡ get_or xs k 0
get_or-claim_all xs [] k inside = refl
get_or-claim_all xs (n ∷ ns) k inside =
    let l = length-claim n xs in
    get_or-claim_all (claim xs n) ns k (omega arith) ∙ get_or-claim n xs k inside

-- ---- what is claimed stays so
-- counts that grow keep each number that is in the list
pub Claimed-more : (old new ns : List ℕ)
    → ((n : ℕ) → times n old ≤ times n new) → Claimed old ns → Claimed new ns
Claimed-more old new ns more h =
    All-weaker (λ n. 0 < times n old) (λ n. 0 < times n new)
    (λ n p. let m = more n in omega arith) ns h
