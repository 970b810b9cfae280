-- What a search has found. Ours, unless a source stands beside.
use Rattle.std.specs.Prelude.{◌≡◌, ◌<◌, ℕ, ℤ, List, length, Option, None, get_or}
use Rattle.meta_types.specs.Rows.{Records}
use Rattle.mark_core.specs.declared.graph.Graph.{Graph}
use Rattle.mark_core.specs.Reach.{IsInRange, node_count}
use Rattle.mark_core.specs.Nearest.{IsDepth}
use Rattle.gc_graph.specs.declared.node.Node.{Node}
use Rattle.gc_graph.specs.Built.{IsBuilt}
use Rattle.explaining.specs.ThingRows.{numbered}
use Rattle.explaining.specs.Explained.{IsSplitGraphOf}

-- the records, the moment, and how far each number is then from where paths begin
pub record Searched : Type 0 where
  pub records : Records
  pub at : ℤ
  pub depths : List (Option ℕ)

-- the graph was built of the records, for whatever moment
abbrev pub HasGraph : Records → List Node → Graph → Type 0
HasGraph records book graph = (made : ℤ) × IsBuilt records made book graph

-- the graph is that of the records, and each number of it has its depth at the moment
pub record IsSearched (records : Records) (at : ℤ) (graph : Graph) (depths : List (Option ℕ)) : Type 0 where
  pub book : List Node
  pub own : List ℕ
  pub held : List ℕ
  pub split : IsSplitGraphOf records at book graph own held
  pub deep : (n : ℕ) → n < length (numbered records) → IsDepth graph own held n (get_or depths n None)
  pub numbers : length depths ≡ length (numbered records)
  pub nodes : length depths ≡ node_count graph
  pub range : IsInRange graph
  pub few : length depths < 4294967295
