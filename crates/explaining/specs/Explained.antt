-- The graph of a store with its two kinds of starts, and shortest paths. Ours,
-- unless a source stands beside.
use Rattle.std.specs.Prelude.{◌≡◌, ◌≢◌, ◌≤◌, ℕ, List, length, filter, AllPairs, ℤ, Contains, IsTrue}
use Rattle.std.specs.List.{flat_map}
use Rattle.std.specs.List.Sorted.{IsPermutation}
use Rattle.meta_types.specs.Rows.{Records}
use Rattle.meta_types.specs.Paths.{Thing, things, is_root, IsPath}
use Rattle.meta_types.specs.Keys.{is_key}
use Rattle.meta_types.specs.Explanations.{thing_key}
use Rattle.mark_core.specs.declared.graph.Graph.{Graph}
use Rattle.gc_graph.specs.declared.node.Node.{Node}
use Rattle.gc_graph.specs.Targets.{nodes_of, node_things, root_things}
use Rattle.gc_graph.specs.Built.{targets_in, root_places, IsGraphOf}

-- The graph of a store, made for any moment, since no edge depends on one. At this moment its
-- starts are the roots of their own, and what an image, a container or a lease holds, in any order.
pub record IsSplitGraphOf (records : Records) (at : ℤ) (book : List Node) (graph : Graph) (own held : List ℕ) : Type 0 where
  pub built : ℤ
  pub numbered : book ≡ nodes_of records
  pub once : AllPairs (λ a b. a ≢ b) book
  pub graph_of : IsGraphOf records built book graph
  pub owns : own ≡ root_places records.profile at 0 (node_things records)
  pub holds : IsPermutation (flat_map (targets_in book) (filter (is_root records.profile at) (root_things records))) held

-- a path that ends in the thing, and no path that does has fewer things
abbrev pub HasShortestPath : Records → ℤ → Thing → Type 0
HasShortestPath records at thing = (path : List Thing) × IsPath records at thing path × ((other : List Thing) → IsPath records at thing other → length path ≤ length other)

-- things of one key are one: each kind has one row a key
abbrev pub OneThingPerKey : Records → Type 0
OneThingPerKey records = (a b : Thing) → Contains (things records) a → Contains (things records) b
    → IsTrue (is_key (thing_key a) (thing_key b)) → a ≡ b
