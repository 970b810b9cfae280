-- Shortest paths, from the root on. Ours, unless a source stands beside.
use Rattle.std.specs.Prelude.{◌≡◌, ℤ, List, [], ◌∷◌, length, ◌≤◌, reverse}
use Rattle.meta_types.specs.Rows.{Records}
use Rattle.meta_types.specs.Paths.{Thing, IsPath}
use Rattle.meta_types.specs.Explanations.{IsFirstBack}

-- the things, from the last back, are a path to the thing that no path undercuts
abbrev pub IsShortestBack : Records → ℤ → Thing → List Thing → Type 0
IsShortestBack records at thing [] = ⊥
IsShortestBack records at thing (last ∷ path) = (last ≡ thing) × IsPath records at last path × ((other : List Thing) → IsPath records at thing other → length path ≤ length other)

-- the same of the things from the root on
abbrev pub IsShortestPath : Records → ℤ → Thing → List Thing → Type 0
IsShortestPath records at thing path = IsShortestBack records at thing (reverse path)

-- the things, from the last back, are of all shortest paths to the thing the first
abbrev pub IsFirstTo : Records → ℤ → Thing → List Thing → Type 0
IsFirstTo records at thing [] = ⊥
IsFirstTo records at thing (last ∷ path) = (last ≡ thing) × IsPath records at last path
    × ((other : List Thing) → IsPath records at thing other → length path ≤ length other) × IsFirstBack records at last path
