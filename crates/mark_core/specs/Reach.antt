-- Which nodes of a graph are reached. Ours, unless a source stands beside.
use Rattle.std.specs.Prelude.{ℕ, ◌<◌, List, length, All}
use Rattle.meta_types.specs.Walks.{targets_in, IsReached}
use Rattle.mark_core.specs.declared.graph.Graph.{Graph}

-- the targets of each node, in order
abbrev pub rows : Graph → List (List ℕ)
rows g = g.edges

-- the targets of a node. A number that is no node has none
abbrev pub targets : Graph → ℕ → List ℕ
targets g a = targets_in (rows g) a

-- how many nodes there are
abbrev pub node_count : Graph → ℕ
node_count g = length g.edges

-- each number of the graph names a node
abbrev pub IsInRange : Graph → Type 0
IsInRange g =
    All (λ ts. All (λ b. b < node_count g) ts) (rows g) × All (λ r. r < node_count g) g.roots.items

-- a walk along the edges that begins with a root ends in n
-- (containerd garbage-collection.md: what a root references, directly or not, is kept)
abbrev pub Reached : Graph → ℕ → Type 0
Reached g n = IsReached (rows g) g.roots.items n
