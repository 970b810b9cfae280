-- Numbers of sessions, counted.
use Rattle.std.proofs.Common.{◌≡◌, ◌≢◌, ℕ, zero, suc, ◌<◌, ◌≤◌, List, [], ◌∷◌, length, get_or, Bool, true, false, refl, sym, ◌∙◌, ap, subst, arith, inl, inr}
use Rattle.std.specs.Prelude.{◌==◌, cond, filter, count_by, nat_lt, if◌then◌else◌, All}
use Rattle.std.proofs.lemmas.Bool.{eq-eqb, ne_eqb, cases_lt}
use Rattle.std.proofs.lemmas.Bool.Decides.{nat_tests}
use Rattle.std.proofs.lemmas.List.Sums.{length-filter}
use Rattle.store_front.specs.SessionEntries.{Seat}
use Rattle.store_front.specs.Finish.{AreEach}

abbrev count : ℕ → List Seat → ℕ
count k seats = count_by (λ (s : Seat). s.number == k) seats

abbrev pub with : ℕ → List Seat → List Seat
with k seats = filter (λ (s : Seat). s.number == k) seats

pub some_with : (k : ℕ) (seats : List Seat) (i : ℕ) (d : Seat) → i < length seats
    → (get_or seats i d).number ≡ k → 0 < length (with k seats)
some_with k [] i d here is = absurd (omega arith)
some_with k (x ∷ xs) zero d here is =
    let e : (x.number == k) ≡ true = eq-eqb x.number k is in
    subst (λ (b : Bool). 0 < length (cond b (x ∷ with k xs) (with k xs))) (sym e) (omega arith)
some_with k (x ∷ xs) (suc i) d here is =
    let h : 0 < length (with k xs) = some_with k xs i d (omega arith) is in
    elim (x.number == k) as (λ (b : Bool). 0 < length (cond b (x ∷ with k xs) (with k xs))) [ true ↦ omega arith | false ↦ omega arith ]

-- a seat with the number is counted
pub counted : (k : ℕ) (seats : List Seat) (i : ℕ) (d : Seat) → i < length seats
    → (get_or seats i d).number ≡ k → 0 < count k seats
counted k seats i d here is =
    let h = some_with k seats i d here is in
    omega (arith, length-filter (λ (s : Seat). s.number == k) seats)

none_with : (opened k : ℕ) (seats : List Seat) → All (λ (s : Seat). s.number < opened) seats
    → opened ≤ k → length (with k seats) ≡ 0
none_with opened k [] all above = refl
none_with opened k (x ∷ xs) all above =
    let h : x.number < opened = all 0 x (omega arith) in
    let rest : All (λ (s : Seat). s.number < opened) xs = λ i d l. all (suc i) d (omega arith) in
    let n : length (with k xs) ≡ 0 = none_with opened k xs rest above in
    let e : (x.number == k) ≡ false = ne_eqb x.number k (λ same. omega arith) in
    subst (λ (b : Bool). length (cond b (x ∷ with k xs) (with k xs)) ≡ 0) (sym e) n

-- none has a number that is above all
pub none_above : (opened k : ℕ) (seats : List Seat)
    → All (λ (s : Seat). s.number < opened) seats → opened ≤ k → count k seats ≡ 0
none_above opened k seats all above = sym (length-filter (λ (s : Seat). s.number == k) seats) ∙ none_with opened k seats all above

pub nat_lt_true : (k opened : ℕ) → k < opened → nat_lt k opened ≡ true
nat_lt_true k opened h = grind (arith, nat_tests)

nat_lt_false : (k opened : ℕ) → opened ≤ k → nat_lt k opened ≡ false
nat_lt_false k opened h = grind (arith, nat_tests)

-- each number below is counted once, and none is above
pub are_each : (opened : ℕ) (seats : List Seat) → ((k : ℕ) → k < opened → count k seats ≡ 1)
    → All (λ (s : Seat). s.number < opened) seats → AreEach opened seats
are_each opened seats once below k =
    elim (cases_lt k opened) [
      | inl less ↦ once k less ∙ ap (λ (b : Bool). if b then 1 else 0) (sym (nat_lt_true k opened less))
      | inr more ↦ none_above opened k seats below more ∙ ap (λ (b : Bool). if b then 1 else 0) (sym (nat_lt_false k opened more))
    ]

pub not_each : (opened : ℕ) (seats : List Seat) (k : ℕ) → k < opened → count k seats ≢ 1
    → ¬ (AreEach opened seats)
not_each opened seats k here other each = other (each k ∙ ap (λ (b : Bool). if b then 1 else 0) (nat_lt_true k opened here))

pub one_above : (opened : ℕ) (seats : List Seat) (k : ℕ) → opened ≤ k → 0 < count k seats
    → ¬ (AreEach opened seats)
one_above opened seats k above some each =
    let n : count k seats ≡ 0 = each k ∙ ap (λ (b : Bool). if b then 1 else 0) (nat_lt_false k opened above) in
    omega arith
