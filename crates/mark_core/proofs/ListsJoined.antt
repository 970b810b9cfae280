-- Lists behind other lists, and empty ones.
use Rattle.std.proofs.Common.{◌≡◌, ◌+◌, ◌-◌, ◌++◌, ℕ, zero, suc, List, [], ◌∷◌, length, take, drop, map, replicate, arith, refl, sym, ap, ap₂, subst}
use Rattle.std.specs.List.{slice_range}
use Rattle.std.proofs.Math.Seq.{drop-append-add}
use Rattle.mark_core.specs.TargetLists.{lists_of, AreEnds}
use Rattle.mark_core.proofs.ListEnds.{range_before, ends_within}

-- further ends cut further lists
pub lists_joined : (numbers more : List ℕ) (start : ℕ) (ends rest : List ℕ)
    → AreEnds start ends (length numbers)
    → lists_of (numbers ++ more) start (ends ++ rest)
    ≡ lists_of numbers start ends ++ lists_of (numbers ++ more) (length numbers) rest
lists_joined numbers more start [] rest is = ap (λ s. lists_of (numbers ++ more) s rest) is
lists_joined numbers more start (end ∷ ends) rest is =
    ap₂ (λ l ls. l ∷ ls)
    (range_before numbers more start end (ends_within end ends (length numbers) is.1) is.0)
    (lists_joined numbers more end ends rest is.1)

-- they are ends
pub ends_joined : (start : ℕ) (ends rest : List ℕ) (middle count : ℕ) → AreEnds start ends middle
    → AreEnds middle rest count → AreEnds start (ends ++ rest) count
ends_joined start [] rest middle count is more = subst (λ s. AreEnds s rest count) (sym is) more
ends_joined start (end ∷ ends) rest middle count is more =
    (is.0, ends_joined end ends rest middle count is.1 more)

-- a list of the numbers behind
range_shifted : (numbers more : List ℕ) (start end : ℕ)
    → slice_range (numbers ++ more) (length numbers + start) (length numbers + end)
    ≡ slice_range more start end
range_shifted numbers more start end =
    let long : (length numbers + end) - (length numbers + start) ≡ end - start = omega arith in
    ap₂ take long (drop-append-add numbers more start)

-- shifted ends cut the lists of the numbers behind
pub lists_shifted : (numbers more : List ℕ) (start : ℕ) (ends : List ℕ)
    → lists_of (numbers ++ more) (length numbers + start) (map (λ end. length numbers + end) ends)
    ≡ lists_of more start ends
lists_shifted numbers more start [] = refl
lists_shifted numbers more start (end ∷ ends) =
    ap₂ (λ l ls. l ∷ ls) (range_shifted numbers more start end)
    (lists_shifted numbers more end ends)

-- they are ends too
pub ends_shifted : (by start : ℕ) (ends : List ℕ) (count : ℕ) → AreEnds start ends count
    → AreEnds (by + start) (map (λ end. by + end) ends) (by + count)
ends_shifted by start [] count is = ap (λ n. by + n) is
ends_shifted by start (end ∷ ends) count is =
    (omega (arith, is.0), ends_shifted by end ends count is.1)

-- equal ends cut empty lists
pub lists_empty : (numbers : List ℕ) (end count : ℕ)
    → lists_of numbers end (replicate count end) ≡ replicate count []
lists_empty numbers end zero = refl
lists_empty numbers end (suc count) =
    let none : end - end ≡ 0 = omega arith in
    ap₂ (λ l ls. l ∷ ls) (ap (λ n. take n (drop end numbers)) none) (lists_empty numbers end count)

-- they are ends where nothing follows
pub ends_empty : (end count : ℕ) → AreEnds end (replicate count end) end
ends_empty end zero = refl
ends_empty end (suc count) = (omega arith, ends_empty end count)
