-- Walks from a start, and those that no other undercuts. Ours, unless a source stands beside.
use Rattle.std.specs.Prelude.{◌≡◌, ℕ, ◌+◌, ◌≤◌, ◌⊎◌, List, [], ◌∷◌, length, Contains, Option, Some, None}
use Rattle.meta_types.specs.Walks.{IsWalk, end_of}
use Rattle.mark_core.specs.declared.graph.Graph.{Graph}
use Rattle.mark_core.specs.Reach.{rows}

-- a walk may start here at this cost: nothing at a start of its own, 1 at one that is held
abbrev pub IsStart : List ℕ → List ℕ → ℕ → ℕ → Type 0
IsStart own held n cost = (Contains own n × (cost ≡ 0)) ⊎ (Contains held n × (cost ≡ 1))

-- a walk from a start to the node, of this cost: that of the start, and 1 for each step
abbrev pub IsWalkTo : Graph → List ℕ → List ℕ → ℕ → ℕ → List ℕ → Type 0
IsWalkTo g own held node cost [] = ⊥
IsWalkTo g own held node cost (start ∷ walk) = (first : ℕ) × IsStart own held start first
    × IsWalk (rows g) start walk × (end_of start walk ≡ node) × (cost ≡ first + length walk)

-- a walk from a start to the node, as cheap as any
abbrev pub IsNearest : Graph → List ℕ → List ℕ → ℕ → List ℕ → Type 0
IsNearest g own held node walk = (cost : ℕ) × IsWalkTo g own held node cost walk
    × ((other : List ℕ) (price : ℕ) → IsWalkTo g own held node price other → cost ≤ price)

-- the cost of the nearest walk to the node; none where no walk leads there
abbrev pub IsDepth : Graph → List ℕ → List ℕ → ℕ → Option ℕ → Type 0
IsDepth g own held node None =
    (walk : List ℕ) (cost : ℕ) → IsWalkTo g own held node cost walk → ⊥
IsDepth g own held node (Some depth) = ((walk : List ℕ) × IsWalkTo g own held node depth walk)
    × ((walk : List ℕ) (cost : ℕ) → IsWalkTo g own held node cost walk → depth ≤ cost)
