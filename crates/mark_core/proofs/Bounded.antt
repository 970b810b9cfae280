-- What a search has seen are nodes of the graph, so there are no more of them than the graph has.
use Rattle.std.proofs.Common.{ℕ, ◌<◌, ◌≤◌, List, Some, None, Option, length, inl, inr, arith}
use Rattle.std.specs.Prelude.{All}
use Rattle.std.proofs.lemmas.List.{length-map}
use Rattle.std.proofs.lemmas.List.Elements.{All-map, All-weaker, All-contains}
use Rattle.mark_core.specs.declared.graph.Graph.{Graph}
use Rattle.mark_core.specs.Reach.{targets, node_count, IsInRange}
use Rattle.mark_core.proofs.Counts.{length_distinct}
use Rattle.mark_core.proofs.Walks.{targets_in_range}
use Rattle.mark_core.specs.Seeing.{Seen}
use Rattle.mark_core.specs.Seeing.{times_seen}
use Rattle.mark_core.specs.Nearest.{IsStart}
use Rattle.mark_core.specs.Forests.{ComesFrom, Comes}
use Rattle.mark_core.proofs.Seeings.{nodes, times_nodes}
use Rattle.mark_core.proofs.Growing.{Grown}

module _ (g : Graph) (own held : List ℕ) (seen : List Seen) (range : IsInRange g) (owns : All (λ r. r < node_count g) own) (helds : All (λ r. r < node_count g) held) where
  start_in_range : (n cost : ℕ) → IsStart own held n cost → n < node_count g
  start_in_range n cost (inl c) = All-contains (λ r. r < node_count g) own n owns c.0
  start_in_range n cost (inr c) = All-contains (λ r. r < node_count g) held n helds c.0

  from_in_range : (node depth : ℕ) (before : Option ℕ) → ComesFrom g own held seen node depth before → node < node_count g
  from_in_range node depth None c = start_in_range node depth c
  from_in_range node depth (Some p) c = All-contains (λ r. r < node_count g) (targets g c.0.node) node (targets_in_range g c.0.node range) c.4

  pub seen_in_range : All (Comes g own held seen) seen → All (λ s. s.node < node_count g) seen
  seen_in_range comes = All-weaker (Comes g own held seen) (λ s. s.node < node_count g) (λ s c. from_in_range s.node s.depth s.before c) seen comes

module _ (g : Graph) (own held : List ℕ) (seen : List Seen) (next : ℕ) (range : IsInRange g) (owns : All (λ r. r < node_count g) own) (helds : All (λ r. r < node_count g) held) (e : Grown g own held seen next) where
  all_in_range : All (λ n. n < node_count g) (nodes seen)
  all_in_range = All-map (λ n. n < node_count g) (λ s. s.node) seen (seen_in_range g own held seen range owns helds e.comes)

  pub bounded : ((n : ℕ) → times_seen n seen ≤ 1) → length seen ≤ node_count g
  bounded once =
      let l = length-map seen (λ s. s.node) in
      let b = length_distinct (node_count g) (nodes seen) all_in_range (λ n. let t = times_nodes n seen in let o = once n in omega arith) in
      omega arith
