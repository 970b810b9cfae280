-- Lists of sessions, emptied one after the other.
use Rattle.std.proofs.Common.{◌≡◌, ℕ, zero, suc, ◌+◌, ◌<◌, ◌≤◌, List, [], ◌∷◌, length, slice_index_or, slice_set, refl, sym, ap, ◌∙◌, arith}
use Rattle.std.specs.Prelude.{map}
use Rattle.store_front.specs.SessionEntries.{Seat}
use Rattle.store_front.specs.Finish.{fresh, told_to, cleared, told_first}

-- the one at the place isn't emptied yet
pub next_is : (seats : List Seat) (i : ℕ) (d : Seat) → i < length seats
    → slice_index_or (cleared i seats) i d ≡ slice_index_or seats i d
next_is [] i d here = absurd (omega (arith, here))
next_is (s ∷ seats) zero d here = refl
next_is (s ∷ seats) (suc i) d here = next_is seats i d (omega (arith, here))

set_one : (seats : List Seat) (i : ℕ) (d : Seat) → i < length seats
    → slice_set (cleared i seats) i (fresh (slice_index_or seats i d)) ≡ cleared (suc i) seats
set_one [] i d here = absurd (omega (arith, here))
set_one (s ∷ seats) zero d here = refl
set_one (s ∷ seats) (suc i) d here = ap (λ (l : List Seat). fresh s ∷ l) (set_one seats i d (omega (arith, here)))

count_one : (seats : List Seat) (i : ℕ) (d : Seat) → i < length seats
    → told_first (suc i) seats ≡ told_first i seats + length (slice_index_or seats i d).list
count_one [] i d here = absurd (omega (arith, here))
count_one (s ∷ seats) zero d here = omega arith
count_one (s ∷ seats) (suc i) d here =
    let more = count_one seats i d (omega (arith, here)) in
    omega (arith, more)

next : (i : ℕ) → suc i ≡ i + 1
next i = omega arith

-- one more is emptied
pub one_more : (seats : List Seat) (i : ℕ) (d : Seat) → i < length seats
    → slice_set (cleared i seats) i (fresh (slice_index_or seats i d)) ≡ cleared (i + 1) seats
one_more seats i d here = set_one seats i d here ∙ ap (λ (k : ℕ). cleared k seats) (next i)

pub one_counted : (seats : List Seat) (i : ℕ) (d : Seat) → i < length seats
    → told_first (i + 1) seats ≡ told_first i seats + length (slice_index_or seats i d).list
one_counted seats i d here = ap (λ (k : ℕ). told_first k seats) (sym (next i)) ∙ count_one seats i d here

-- all are emptied
pub all_cleared : (seats : List Seat) (n : ℕ) → length seats ≤ n → cleared n seats ≡ map fresh seats
all_cleared [] zero end = refl
all_cleared [] (suc n) end = refl
all_cleared (s ∷ seats) zero end = absurd (omega (arith, end))
all_cleared (s ∷ seats) (suc n) end = ap (λ (l : List Seat). fresh s ∷ l) (all_cleared seats n (omega (arith, end)))

pub all_told : (seats : List Seat) (n : ℕ) → length seats ≤ n → told_first n seats ≡ told_to seats
all_told [] zero end = refl
all_told [] (suc n) end = refl
all_told (s ∷ seats) zero end = absurd (omega (arith, end))
all_told (s ∷ seats) (suc n) end = ap (λ (k : ℕ). length s.list + k) (all_told seats n (omega (arith, end)))
