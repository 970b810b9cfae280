-- Bytes that are put over as many.
use Rattle.std.proofs.Common.{◌≡◌, ◌∙◌, ap, sym, ℕ, ◌+◌, ◌≤◌, List, ◌++◌, length, take, drop, arith, length-append, length-drop}
use Rattle.std.proofs.lemmas.List.{take_at, drop_at, length-take-le}
use Rattle.journal.specs.Crashes.{written}
use Rattle.journal.proofs.Fronts.{written_front, written_after}

module _ (text bytes : List ℕ) (at n : ℕ) (long : length bytes ≡ n) (fits : at + n ≤ length text)
  where
    pub before : take at (written at bytes text) ≡ take at text
    before = written_front at at bytes text (omega arith) (omega (arith, fits))

    pub behind : drop (at + n) (written at bytes text) ≡ drop (at + n) text
    behind = written_after at (at + n) bytes text (omega (arith, fits)) (omega (arith, long))

    front_long : length (take at text) ≡ at
    front_long = length-take-le at text (omega (arith, fits))

    pub size : length (written at bytes text) ≡ length text
    size =
        let all = length-append (take at text) (bytes ++ drop (at + length bytes) text) in
        let some = length-append bytes (drop (at + length bytes) text) in
        let back = length-drop (at + length bytes) text in
        let front = front_long in
        omega (arith, all, some, back, front, long, fits)

    pub there : take n (drop at (written at bytes text)) ≡ bytes
    there = ap (take n) (drop_at (take at text) (bytes ++ drop (at + length bytes) text) at
        front_long) ∙ take_at bytes (drop (at + length bytes) text) n long

    -- once more
    pub again : (more : List ℕ) → length more ≡ n
        → written at more (written at bytes text) ≡ written at more text
    again more count =
        ap (λ (t : List ℕ). t ++ (more ++ drop (at + length more) (written at bytes text))) before
        ∙ ap (λ (k : ℕ). take at text ++ (more ++ drop (at + k) (written at bytes text))) count
        ∙ ap (λ (t : List ℕ). take at text ++ (more ++ t)) behind
        ∙ ap (λ (k : ℕ). take at text ++ (more ++ drop (at + k) text)) (sym count)
