-- What a whole search has seen. Ours, unless a source stands beside.
use Rattle.std.specs.Prelude.{◌≡◌, ℕ, ◌+◌, ◌<◌, ◌≤◌, List, length, slice_index_or, All, AllPairs, Contains, Option, Some, None}
use Rattle.meta_types.specs.Walks.{IsWalk, end_of}
use Rattle.mark_core.specs.declared.graph.Graph.{Graph}
use Rattle.mark_core.specs.Reach.{rows, targets}
use Rattle.mark_core.specs.Seeing.{Seen}
use Rattle.mark_core.specs.Nearest.{IsStart}

-- how a node was found: it is a start, or a target of the one at the place, a step farther
abbrev pub ComesFrom : Graph → List ℕ → List ℕ → List Seen → ℕ → ℕ → Option ℕ → Type 0
ComesFrom g own held seen node depth None = IsStart own held node depth
ComesFrom g own held seen node depth (Some place) = (b : Seen) × (place < length seen)
    × (slice_index_or seen place b ≡ b) × (depth ≡ b.depth + 1) × Contains (targets g b.node) node

-- the same of one that was seen
abbrev pub Comes : Graph → List ℕ → List ℕ → List Seen → Seen → Type 0
Comes g own held seen s = ComesFrom g own held seen s.node s.depth s.before

-- the node was seen, no deeper than this
abbrev pub Stands : List Seen → ℕ → ℕ → Type 0
Stands seen n depth = (s : Seen) × Contains seen s × (s.node ≡ n) × (s.depth ≤ depth)

-- all that was seen comes from a start, nearest first, and no walk leads to a node for less
pub record IsForest (g : Graph) (own held : List ℕ) (seen : List Seen) : Type 0 where
  pub comes : All (Comes g own held seen) seen
  pub rising : AllPairs (λ a b. a.depth ≤ b.depth) seen
  pub nearest : (start cost : ℕ) (walk : List ℕ) → IsStart own held start cost → IsWalk (rows g) start walk
      → Stands seen (end_of start walk) (cost + length walk)
