-- How deep a search has seen each node, without how it was found. Ours, unless a source stands beside.
use Rattle.std.specs.Prelude.{◌≡◌, ℕ, ◌<◌, ◌==◌, List, [], ◌∷◌, ◌++◌, length, map, get_or, Option, Some, None, if◌then◌else◌}
use Rattle.mark_core.specs.Seeing.{Seen}

-- the depth at which the node was seen first
abbrev pub depth_in : List Seen → ℕ → Option ℕ
depth_in [] n = None
depth_in (s ∷ seen) n = if s.node == n then Some s.depth else depth_in seen n

-- a node goes behind the others, unless it has a depth
abbrev pub queued : List ℕ → Option ℕ → ℕ → List ℕ
queued queue (Some depth) n = queue
queued queue None n = queue ++ n ∷ []

-- what was seen, told by its nodes in order, and by the depth of each node of the graph
abbrev pub KeepsDepths : List Seen → List ℕ → List (Option ℕ) → Type 0
KeepsDepths seen queue depths = (queue ≡ map (λ s. s.node) seen)
    × ((n : ℕ) → n < length depths → get_or depths n None ≡ depth_in seen n)
