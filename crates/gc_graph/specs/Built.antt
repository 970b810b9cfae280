-- The graph of a store. Ours, unless a source stands beside.
use Rattle.std.specs.Prelude.{◌≡◌, Bool, ℕ, ◌≢◌, suc, AllPairs, List, [], ◌∷◌, ◌++◌, map, length, filter, position, Option, Some, if◌then◌else◌, ℤ, Contains, ◌↔◌}
use Rattle.std.specs.List.{flat_map, filter_map}
use Rattle.std.specs.List.Sorted.{IsPermutation}
use Rattle.meta_types.specs.Rows.{content_key, ingest_key, snap_key}
use Rattle.meta_types.specs.Rows.{Records}
use Rattle.meta_types.specs.Paths.{Thing, things, is_root, IsReached}
use Rattle.mark_core.specs.declared.graph.Graph.{Graph}
use Rattle.mark_core.specs.Reach.{rows, node_count, IsInRange, Reached}
use Rattle.gc_graph.specs.declared.node.Node.{Node}
use Rattle.gc_graph.specs.Nodes.{is_node}
use Rattle.gc_graph.specs.Targets.{node_of, nodes_of, node_things, root_things, targets_of}

-- the number of a node is its place in the book
abbrev pub number_of : List Node → Node → Option ℕ
number_of book node = position (is_node node) book

-- the numbers of those nodes that the book has
abbrev pub numbers_in : List Node → List Node → List ℕ
numbers_in book nodes = filter_map (number_of book) nodes

-- the places of the rows that hold, the first row's place being n
abbrev pub places : {Row : Type 0} → (Row → Bool) → ℕ → List Row → List ℕ
places holds n [] = []
places holds n (row ∷ rest) = if holds row then n ∷ places holds (suc n) rest else places holds (suc n) rest

-- the places of roots, the first thing's place being n
abbrev pub root_places : ℕ → ℤ → ℕ → List Thing → List ℕ
root_places profile at n [] = []
root_places profile at n (thing ∷ rest) = if is_root profile at thing then n ∷ root_places profile at (suc n) rest else root_places profile at (suc n) rest

-- the numbers of what a thing references and the book has
abbrev pub targets_in : List Node → Thing → List ℕ
targets_in book thing = numbers_in book (targets_of thing)

-- the same of a root, and nothing of any other thing
abbrev pub root_targets : ℕ → ℤ → List Node → Thing → List ℕ
root_targets profile at book thing = if is_root profile at thing then targets_in book thing else []

-- the rows of the graph are the targets of the things, and its roots are, in any order, those that
-- are roots of their own, and the targets of images, containers and leases
pub record IsGraphOf (records : Records) (at : ℤ) (book : List Node) (graph : Graph) : Type 0 where
  pub edges : rows graph ≡ map (targets_in book) (node_things records)
  pub roots : IsPermutation (flat_map (targets_in book) (filter (is_root records.profile at) (root_things records)) ++ root_places records.profile at 0 (node_things records)) graph.roots.items

-- of rows that have numbers no key stands twice; they may stand in any order
pub record AreApart (records : Records) : Type 0 where
  pub content : AllPairs (λ a b. content_key a ≢ content_key b) records.tables.content
  pub ingests : AllPairs (λ a b. ingest_key a ≢ ingest_key b) records.tables.ingests
  pub snapshots : AllPairs (λ a b. snap_key a ≢ snap_key b) records.tables.snapshots

-- what the graph says of the store (paths: containerd garbage-collection.md)
pub record IsBuilt (records : Records) (at : ℤ) (book : List Node) (graph : Graph) : Type 0 where
  -- each content and snapshot row in both modes and each ingest has a number, and only one
  pub numbered : book ≡ nodes_of records
  pub once : AllPairs (λ a b. a ≢ b) book
  -- its rows are the targets of the things, and its roots where paths begin
  pub graph_of : IsGraphOf records at book graph
  -- each number names a row of the graph
  pub range : IsInRange graph
  pub count : node_count graph ≡ length book
  -- a number is reached exactly where a path ends in its thing
  pub each : (thing : Thing) (node : Node) (n : ℕ) → Contains (things records) thing → node_of thing ≡ Some node → number_of book node ≡ Some n → Reached graph n ↔ IsReached records at thing
