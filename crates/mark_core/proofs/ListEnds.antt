-- What ends cut a list into, list by list.
use Rattle.std.proofs.Common.{◌≡◌, ◌<◌, ◌≤◌, ◌+◌, ◌-◌, ◌++◌, ◌∙◌, ℕ, zero, suc, List, [], ◌∷◌, length, get_or, take, drop, arith, refl, ap, ap₂}
use Rattle.std.specs.List.{slice_range}
use Rattle.std.proofs.lemmas.List.{take-append-le, drop-append-le, length-drop}
use Rattle.std.proofs.Math.Seq.{drop-append_seam, take-length}
use Rattle.mark_core.specs.TargetLists.{lists_of, AreEnds}

-- one list an end
pub length-lists : (numbers : List ℕ) (start : ℕ) (ends : List ℕ)
    → length (lists_of numbers start ends) ≡ length ends
length-lists numbers start [] = refl
length-lists numbers start (end ∷ ends) = ap suc (length-lists numbers end ends)

-- no end lies past the numbers
pub ends_within : (start : ℕ) (ends : List ℕ) (count : ℕ) → AreEnds start ends count → start ≤ count
ends_within start [] count is = omega (arith, is)
ends_within start (end ∷ ends) count is =
    let up = ends_within end ends count is.1 in
    let here = is.0 in omega arith

-- a list begins where the one before it ends
pub list_at : (numbers : List ℕ) (start : ℕ) (ends : List ℕ) (i : ℕ) → i < length ends
    → get_or (lists_of numbers start ends) i []
    ≡ slice_range numbers (get_or (start ∷ ends) i 0) (get_or ends i 0)
list_at numbers start [] i inside = absurd (omega arith)
list_at numbers start (end ∷ ends) zero inside = refl
list_at numbers start (end ∷ ends) (suc i) inside = list_at numbers end ends i (omega arith)

-- a list ends behind its beginning
pub ends_behind : (start : ℕ) (ends : List ℕ) (count i : ℕ) → AreEnds start ends count
    → i < length ends → get_or (start ∷ ends) i 0 ≤ get_or ends i 0
ends_behind start [] count i is inside = absurd (omega arith)
ends_behind start (end ∷ ends) count zero is inside = is.0
ends_behind start (end ∷ ends) count (suc i) is inside =
    ends_behind end ends count i is.1 (omega arith)

-- a list ends within the numbers
pub ends_inside : (start : ℕ) (ends : List ℕ) (count i : ℕ) → AreEnds start ends count
    → i < length ends → get_or ends i 0 ≤ count
ends_inside start [] count i is inside = absurd (omega arith)
ends_inside start (end ∷ ends) count zero is inside = ends_within end ends count is.1
ends_inside start (end ∷ ends) count (suc i) is inside =
    ends_inside end ends count i is.1 (omega arith)

-- numbers at the end change no list before
pub range_before : (numbers more : List ℕ) (start end : ℕ) → end ≤ length numbers → start ≤ end
    → slice_range (numbers ++ more) start end ≡ slice_range numbers start end
range_before numbers more start end inside up =
    let dropped = drop-append-le start numbers more (omega arith) in
    let long = length-drop start numbers in
    ap (take (end - start)) dropped ∙ take-append-le (end - start) (drop start numbers) more
    (omega arith)

-- and are the list behind
range_behind : (numbers more : List ℕ)
    → slice_range (numbers ++ more) (length numbers) (length numbers + length more) ≡ more
range_behind numbers more =
    ap₂ take (omega arith) (drop-append_seam numbers more) ∙ take-length more

-- one list more
pub lists_pushed : (numbers more : List ℕ) (start : ℕ) (ends : List ℕ)
    → AreEnds start ends (length numbers)
    → lists_of (numbers ++ more) start (ends ++ (length numbers + length more) ∷ [])
    ≡ lists_of numbers start ends ++ more ∷ []
lists_pushed numbers more start [] is =
    ap (λ l. l ∷ [])
    (ap (λ s. slice_range (numbers ++ more) s (length numbers + length more)) is
    ∙ range_behind numbers more)
lists_pushed numbers more start (end ∷ ends) is =
    ap₂ (λ l ls. l ∷ ls)
    (range_before numbers more start end (ends_within end ends (length numbers) is.1) is.0)
    (lists_pushed numbers more end ends is.1)

-- its end is one
pub ends_pushed : (start : ℕ) (ends : List ℕ) (count more : ℕ) → AreEnds start ends count
    → AreEnds start (ends ++ (count + more) ∷ []) (count + more)
ends_pushed start [] count more is = (omega (arith, is), refl)
ends_pushed start (end ∷ ends) count more is = (is.0, ends_pushed end ends count more is.1)
