-- The answers that all sessions got together, beside the log.
use Rattle.std.proofs.Common.{◌≡◌, ℕ, suc, ◌+◌, ◌<◌, List, [], ◌∷◌, length, Bool, true, false, refl, sym, ap, ◌∙◌, arith}
use Rattle.std.specs.Prelude.{◌==◌, cond, filter, map, All, if◌then◌else◌}
use Rattle.std.proofs.lemmas.Bool.{eq-eqb}
use Rattle.std.proofs.lemmas.Bool.Decides.{Decides-eqb}
use Rattle.std.proofs.lemmas.List.Sums.{length-filter}
use Rattle.meta_types.specs.Histories.{Entry}
use Rattle.store_front.specs.SessionEntries.{Seat}
use Rattle.store_front.specs.Parts.{part, session_entry_of, IsPart, AreOpened}
use Rattle.store_front.specs.Finish.{AreEach, told_to}
use Rattle.store_front.proofs.SessionCounts.{with, nat_lt_true}

abbrev one_if : Bool → ℕ
one_if b = cond b 1 0

-- the lengths of the sessions' parts together
abbrev pub parts : List Entry → List Seat → ℕ
parts log [] = 0
parts log (s ∷ seats) = length (part s.number log) + parts log seats

step_entry : (b : Bool) (e : Entry) (log : List Entry)
    → length (map session_entry_of (cond b (e ∷ log) log)) ≡ one_if b + length (map session_entry_of log)
step_entry true e log = omega arith
step_entry false e log = omega arith

step_seat : (b : Bool) (s : Seat) (seats : List Seat)
    → length (cond b (s ∷ seats) seats) ≡ one_if b + length seats
step_seat true s seats = omega arith
step_seat false s seats = omega arith

turned : (a b : ℕ) → (a == b) ≡ (b == a)
turned a b = same (a == b) (b == a) (λ h. eq-eqb b a (sym ((Decides-eqb a b).0 h))) (λ h. eq-eqb a b (sym ((Decides-eqb b a).0 h)))
  where
    same : (x y : Bool) → (x ≡ true → y ≡ true) → (y ≡ true → x ≡ true) → x ≡ y
    same true y f g = sym (f refl)
    same false true f g = g refl
    same false false f g = refl

-- an entry more is one answer more for each session with its number
more : (e : Entry) (log : List Entry) (seats : List Seat)
    → parts (e ∷ log) seats ≡ length (with e.session seats) + parts log seats
more e log [] = omega arith
more e log (s ∷ seats) =
    let one : length (part s.number (e ∷ log)) ≡ one_if (e.session == s.number) + length (part s.number log) = step_entry (e.session == s.number) e (filter (λ (x : Entry). x.session == s.number) log) in
    let two : length (with e.session (s ∷ seats)) ≡ one_if (s.number == e.session) + length (with e.session seats) = step_seat (s.number == e.session) s (with e.session seats) in
    let same : one_if (e.session == s.number) ≡ one_if (s.number == e.session) = ap one_if (turned e.session s.number) in
    let rest = more e log seats in
    omega (arith, one, two, same, rest)

none : (seats : List Seat) → parts [] seats ≡ 0
none [] = refl
none (s ∷ seats) = let rest = none seats in omega (arith, rest)

whole : (opened : ℕ) (log : List Entry) (seats : List Seat) → AreEach opened seats
    → AreOpened opened log → parts log seats ≡ length log
whole opened [] seats each all = none seats
whole opened (e ∷ log) seats each all =
    let here : e.session < opened = all 0 e (omega arith) in
    let later : AreOpened opened log = λ i d l. all (suc i) d (omega (arith, l)) in
    let one : length (with e.session seats) ≡ 1 = length-filter (λ (s : Seat). s.number == e.session) seats ∙ each e.session ∙ ap (λ (b : Bool). if b then 1 else 0) (nat_lt_true e.session opened here) in
    let rest = whole opened log seats each later in
    let first = more e log seats in
    omega (arith, one, rest, first)

told_parts : (log : List Entry) (seats : List Seat) → All (IsPart log) seats
    → told_to seats ≡ parts log seats
told_parts log [] all = refl
told_parts log (s ∷ seats) all =
    let here : length (part s.number log) ≡ length s.list = ap length (all 0 s (omega arith)) in
    let rest = told_parts log seats (λ i d l. all (suc i) d (omega (arith, l))) in
    omega (arith, here, rest)

-- together the sessions got each answer of the log once
pub told_all : (opened : ℕ) (log : List Entry) (seats : List Seat) → AreEach opened seats
    → AreOpened opened log → All (IsPart log) seats → told_to seats ≡ length log
told_all opened log seats each opens all = told_parts log seats all ∙ whole opened log seats each opens
