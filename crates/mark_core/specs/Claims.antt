-- A set of numbers, as a list with none twice. Ours, unless a source stands beside.
use Rattle.std.specs.Prelude.{ℕ, Bool, nat_lt, if◌then◌else◌, List, [], ◌∷◌, ◌++◌}
use Rattle.mark_core.specs.Bits.{times}

-- the number stands in the list
abbrev pub is_in : ℕ → List ℕ → Bool
is_in n xs = nat_lt 0 (times n xs)

-- n is claimed, unless it is already
abbrev pub claim : List ℕ → ℕ → List ℕ
claim xs n = if is_in n xs then xs else xs ++ n ∷ []

-- each number is claimed, in the order in which each stands first
abbrev pub claim_all : List ℕ → List ℕ → List ℕ
claim_all xs [] = xs
claim_all xs (n ∷ ns) = claim_all (claim xs n) ns
