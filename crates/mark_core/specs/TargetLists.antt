-- Lists of numbers that lie in one list, and where each ends. Ours, unless a source stands beside.
use Rattle.std.specs.Prelude.{◌≡◌, ◌≤◌, ℕ, List, [], ◌∷◌, slice_range}

-- the lists that these ends cut the numbers into, from a place on
abbrev pub lists_of : List ℕ → ℕ → List ℕ → List (List ℕ)
lists_of numbers start [] = []
lists_of numbers start (end ∷ ends) = slice_range numbers start end ∷ lists_of numbers end ends

-- no end comes before the place or the end before it, and the last is the count of the numbers
abbrev pub AreEnds : ℕ → List ℕ → ℕ → Type 0
AreEnds start [] count = start ≡ count
AreEnds start (end ∷ ends) count = (start ≤ end) × AreEnds end ends count
