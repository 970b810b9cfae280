-- Which numbers of a graph a walk ends in. `edges` has a list of targets for each number from 0 on.
-- Ours, unless a source stands beside.
use Rattle.std.specs.Prelude.{◌≡◌, ℕ, List, [], ◌∷◌, slice_index_or, Contains}

-- the targets of a number. One that is no node has none
abbrev pub targets_in : List (List ℕ) → ℕ → List ℕ
targets_in edges n = slice_index_or edges n []

-- from n on, each number of the list is a target of the one before
abbrev pub IsWalk : List (List ℕ) → ℕ → List ℕ → Type 0
IsWalk edges n [] = Unit {0}
IsWalk edges n (next ∷ walk) = Contains (targets_in edges n) next × IsWalk edges next walk

-- where a walk from n ends
abbrev pub end_of : ℕ → List ℕ → ℕ
end_of n [] = n
end_of n (next ∷ walk) = end_of next walk

-- a walk that begins with a root ends in n (containerd garbage-collection.md: what a root
-- references, directly or not, is kept)
abbrev pub IsReached : List (List ℕ) → List ℕ → ℕ → Type 0
IsReached edges roots n = (root : ℕ) × (walk : List ℕ) × Contains roots root × IsWalk edges root walk × (end_of root walk ≡ n)
