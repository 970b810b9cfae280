-- Lists of all sessions, compared in one pass over the log.
use Rattle.std.proofs.Common.{◌≡◌, ◌≢◌, ℕ, zero, suc, ◌+◌, ◌<◌, ◌≤◌, List, [], ◌∷◌, length, take, slice_index_or, slice_set, Bool, true, false, refl, sym, ap, ◌∙◌, subst, arith, inl, inr}
use Rattle.std.specs.Prelude.{◌==◌, cond, count_by, nat_lt, if◌then◌else◌, All, slice_get, Option, Some, None, MatchOption}
use Rattle.std.proofs.lemmas.Bool.{eq-eqb, ne_eqb, cases_lt}
use Rattle.std.proofs.lemmas.List.{take_all, get_or-set_same, get_or-set_other}
use Rattle.std.proofs.lemmas.List.Sums.{length-filter}
use Rattle.meta_types.specs.Histories.{Entry}
use Rattle.store_front.specs.SessionEntries.{Seat}
use Rattle.store_front.specs.Parts.{part, session_entry_of, IsPart, AreOpened}
use Rattle.store_front.specs.Finish.{AreEach, OneDiffers}
use Rattle.store_front.specs.Cursors.{IsUpTo, AreUpTo, AreEnded, IsShort}
use Rattle.store_front.proofs.SessionCounts.{with, some_with, nat_lt_true}
use Rattle.store_front.proofs.SessionParts.{skips, goes_on, differs, ends}

-- ---- numbers that stand once

-- two seats with a number are counted twice
two_with : (k : ℕ) (seats : List Seat) (i j : ℕ) (d e : Seat) → i < j → j < length seats
    → (slice_index_or seats i d).number ≡ k → (slice_index_or seats j e).number ≡ k
    → 2 ≤ length (with k seats)
two_with k [] i j d e less here a b = absurd (omega (arith, here))
two_with k (x ∷ xs) zero zero d e less here a b = absurd (omega (arith, less))
two_with k (x ∷ xs) zero (suc j) d e less here a b =
    let same : (x.number == k) ≡ true = eq-eqb x.number k a in
    let one = some_with k xs j e (omega (arith, here)) b in
    subst (λ (c : Bool). 2 ≤ length (cond c (x ∷ with k xs) (with k xs))) (sym same) (omega (arith, one))
two_with k (x ∷ xs) (suc i) zero d e less here a b = absurd (omega (arith, less))
two_with k (x ∷ xs) (suc i) (suc j) d e less here a b =
    let rest = two_with k xs i j d e (omega (arith, less)) (omega (arith, here)) a b in
    elim (x.number == k) as (λ (c : Bool). 2 ≤ length (cond c (x ∷ with k xs) (with k xs))) [ true ↦ omega (arith, rest) | false ↦ rest ]

at_most : (b : Bool) → (if b then 1 else 0) ≤ 1
at_most true = omega arith
at_most false = omega arith

few : (opened : ℕ) (seats : List Seat) (k : ℕ) → AreEach opened seats → length (with k seats) ≤ 1
few opened seats k each =
    let count : length (with k seats) ≡ (if nat_lt k opened then 1 else 0) = length-filter (λ (s : Seat). s.number == k) seats ∙ each k in
    subst (λ (n : ℕ). n ≤ 1) (sym count) (at_most (nat_lt k opened))

-- seats at different places have different numbers
apart : (opened : ℕ) (seats : List Seat) (i j : ℕ) (d e : Seat) → AreEach opened seats
    → i < length seats → j < length seats → (i ≡ j → ⊥)
    → (slice_index_or seats i d).number ≡ (slice_index_or seats j e).number → ⊥
apart opened seats i j d e each a b other same =
    let most = few opened seats (slice_index_or seats j e).number each in
    elim (cases_lt i j) [
      | inl less ↦ (let two = two_with (slice_index_or seats j e).number seats i j d e less b same refl in omega (arith, most, two))
      | inr not ↦ elim (cases_lt j i) [
        | inl less ↦ (let two = two_with (slice_index_or seats j e).number seats j i e d less a refl same in omega (arith, most, two))
        | inr more ↦ other (omega (arith, not, more))
      ]
    ]

-- the number of each entry is counted
pub entry_counted : (opened : ℕ) (log : List Entry) (seats : List Seat) (i : ℕ) (x : Entry)
    → AreEach opened seats → AreOpened opened log → i < length log
    → 0 < count_by (λ (s : Seat). s.number == (slice_index_or log i x).session) seats
entry_counted opened log seats i x each opens here =
    let below = opens i x here in
    let one = each (slice_index_or log i x).session ∙ ap (λ (b : Bool). if b then 1 else 0) (nat_lt_true (slice_index_or log i x).session opened below) in
    omega (arith, one)

-- ---- the pass

pub at_start : (seats : List Seat) (next : List ℕ) → ((j e : ℕ) → j < length seats
    → slice_index_or next j e ≡ 0) → AreUpTo [] seats next
at_start seats next zeros j d e here =
    subst (λ (n : ℕ). IsUpTo [] (slice_index_or seats j d) n) (sym (zeros j e here)) (refl, omega arith)

module _ (opened : ℕ) (log : List Entry) (seats : List Seat) (next : List ℕ) (i : ℕ) (entry : Entry) (place : ℕ) (each : AreEach opened seats) (here : i < length log) (is : slice_index_or log i entry ≡ entry)
    (inside : place < length seats) (long : length next ≡ length seats) (number : (d : Seat) → (slice_index_or seats place d).number ≡ entry.session) (so_far : AreUpTo (take i log) seats next) where
  -- the entry stands in its session's list
  pub one_further : (c : Seat) (m : ℕ)
      → slice_get (slice_index_or seats place c).list (slice_index_or next place m) ≡ Some (session_entry_of entry)
      → AreUpTo (take (i + 1) log) seats (slice_set next place (slice_index_or next place m + 1))
  one_further c m stands j d e within =
      elim (cases_lt j place) [
        | inl less ↦ other (λ same. omega (arith, less, same))
        | inr not ↦ elim (cases_lt place j) [
          | inl less ↦ other (λ same. omega (arith, less, same))
          | inr more ↦ (
              let same : place ≡ j = omega (arith, not, more) in
              subst (λ (k : ℕ). (f : Seat) → IsUpTo (take (i + 1) log) (slice_index_or seats k f) (slice_index_or (slice_set next place (slice_index_or next place m + 1)) k e)) same this d)
        ]
      ]
    where
      list_is : (f : Seat) → slice_index_or seats place c ≡ slice_index_or seats place f
      list_is f = same_element seats place c f inside
        where
          same_element : (xs : List Seat) (n : ℕ) (a b : Seat) → n < length xs
              → slice_index_or xs n a ≡ slice_index_or xs n b
          same_element [] n a b lt = absurd (omega (arith, lt))
          same_element (x ∷ xs) zero a b lt = refl
          same_element (x ∷ xs) (suc n) a b lt = same_element xs n a b (omega (arith, lt))

      this : (f : Seat)
          → IsUpTo (take (i + 1) log) (slice_index_or seats place f) (slice_index_or (slice_set next place (slice_index_or next place m + 1)) place e)
      this f =
          let seat = slice_index_or seats place c in
          let at = slice_index_or next place m in
          let further = goes_on seat.number log seat.list i at entry here is (eq-eqb entry.session seat.number (sym (number c))) (so_far place c m inside).0 stands in
          subst (λ (s : Seat). IsUpTo (take (i + 1) log) s (slice_index_or (slice_set next place (at + 1)) place e)) (list_is f)
          (subst (λ (n : ℕ). IsUpTo (take (i + 1) log) seat n) (sym (get_or-set_same next place (at + 1) e (omega (arith, inside, long)))) further)

      other : (j ≡ place → ⊥)
          → IsUpTo (take (i + 1) log) (slice_index_or seats j d) (slice_index_or (slice_set next place (slice_index_or next place m + 1)) j e)
      other differ =
          let seat = slice_index_or seats j d in
          let before = so_far j d e within in
          let another : (entry.session == seat.number) ≡ false = ne_eqb entry.session seat.number (λ same. apart opened seats j place d c each within inside differ (sym same ∙ sym (number c))) in
          subst (λ (n : ℕ). IsUpTo (take (i + 1) log) seat n) (sym (get_or-set_other next place j (slice_index_or next place m + 1) e differ))
          (skips seat.number log seat.list i (slice_index_or next j e) entry here is another before.0, before.1)

  -- the session's list has another there, or has ended
  pub one_differs : (c : Seat) (m : ℕ)
      → slice_get (slice_index_or seats place c).list (slice_index_or next place m) ≢ Some (session_entry_of entry)
      → OneDiffers log seats (slice_index_or next place m)
  one_differs c m another =
      let seat = slice_index_or seats place c in
      let before = so_far place c m inside in
      (place, c, inside, differs seat.number log seat.list i (slice_index_or next place m) entry here is (eq-eqb entry.session seat.number (sym (number c))) before.0 before.1 another)

  -- the same of the seat and the place that were read
  pub reads_on : (s : Seat) (at : ℕ) → s ≡ slice_index_or seats place s
      → at ≡ slice_index_or next place at → slice_get s.list at ≡ Some (session_entry_of entry)
      → AreUpTo (take (i + 1) log) seats (slice_set next place (at + 1))
  reads_on s at seat_is at_is stands =
      subst (λ (n : ℕ). AreUpTo (take (i + 1) log) seats (slice_set next place (n + 1))) (sym at_is)
      (one_further s at ((λ j. slice_get (sym seat_is j).list (sym at_is j)) ∙ stands))

  pub reads_another : (s : Seat) (at : ℕ) → s ≡ slice_index_or seats place s
      → at ≡ slice_index_or next place at → slice_get s.list at ≢ Some (session_entry_of entry)
      → OneDiffers log seats at
  reads_another s at seat_is at_is another =
      subst (λ (n : ℕ). OneDiffers log seats n) (sym at_is) (one_differs s at (λ h. another ((λ j. slice_get (seat_is j).list (at_is j)) ∙ h)))

-- ---- the end

-- each list that ends at its `next` is its part
pub all_ended : (log : List Entry) (seats : List Seat) (next : List ℕ) → AreUpTo log seats next
    → AreEnded seats next → All (IsPart log) seats
all_ended log seats next up ended j d here =
    (up j d 0 here).0 ∙ ap (λ (n : ℕ). take n (slice_index_or seats j d).list) (ended j d 0 here) ∙ take_all (length (slice_index_or seats j d).list) (slice_index_or seats j d).list (omega arith)

-- a list that goes on differs there
pub one_longer : (log : List Entry) (seats : List Seat) (next : List ℕ) (place : ℕ)
    → AreUpTo log seats next → IsShort seats next place → OneDiffers log seats place
one_longer log seats next place up short =
    let seat = slice_index_or seats short.at short.seat in
    let before : IsUpTo log seat place = subst (λ (n : ℕ). IsUpTo log seat n) short.is (up short.at short.seat short.number short.inside) in
    (short.at, short.seat, short.inside, ends (part seat.number log) seat.list place before.0 (below place (length seat.list) before.1 short.more))
  where
    below : (a b : ℕ) → a ≤ b → (a ≡ b → ⊥) → a < b
    below a b le ne = elim (cases_lt a b) [ inl less ↦ less | inr not ↦ absurd (ne (omega (arith, le, not))) ]

-- after the last entry
pub at_end : (log : List Entry) (seats : List Seat) (next now : List ℕ) (i : ℕ) (r : Option ℕ)
    → AreUpTo (take i log) seats next → length log ≤ i → now ≡ next
    → MatchOption r (AreEnded seats now) (IsShort seats now)
    → MatchOption r (All (IsPart log) seats) (OneDiffers log seats)
at_end log seats next now i r up end is h = one r h
  where
    whole : AreUpTo log seats now
    whole = subst (λ (n : List ℕ). AreUpTo log seats n) (sym is) (subst (λ (l : List Entry). AreUpTo l seats next) (take_all i log end) up)

    one : (r : Option ℕ) → MatchOption r (AreEnded seats now) (IsShort seats now)
        → MatchOption r (All (IsPart log) seats) (OneDiffers log seats)
    one None h = all_ended log seats now whole h
    one (Some place) h = one_longer log seats now place whole h

-- ---- a number that is counted

not_with : (k : ℕ) (seats : List Seat) → All (λ (s : Seat). s.number ≡ k → ⊥) seats
    → length (with k seats) ≡ 0
not_with k [] all = refl
not_with k (x ∷ xs) all =
    let e : (x.number == k) ≡ false = ne_eqb x.number k (all 0 x (omega arith)) in
    let rest = not_with k xs (λ i d l. all (suc i) d (omega (arith, l))) in
    subst (λ (c : Bool). length (cond c (x ∷ with k xs) (with k xs)) ≡ 0) (sym e) rest

-- is some seat's number
pub must_be : (k n : ℕ) (seats : List Seat) → All (λ (s : Seat). s.number ≡ k
    → ⊥) (take n seats) → length seats ≤ n → 0 < count_by (λ (s : Seat). s.number == k) seats → ⊥
must_be k n seats all end some =
    let none = not_with k seats (subst (λ (l : List Seat). All (λ (s : Seat). s.number ≡ k → ⊥) l) (take_all n seats end) all) in
    let count = length-filter (λ (s : Seat). s.number == k) seats in
    omega (arith, none, count, some)
