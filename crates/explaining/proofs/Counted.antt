-- How many numbers there are, and what a search finds.
use Rattle.std.proofs.Common.{◌≡◌, ℕ, ◌<◌, ◌≤◌, false, List, ◌++◌, map, length, filter, get_or, refl, ap, ◌∙◌, inl, inr, arith, ℤ, nat_lt, Option, None}
use Rattle.std.specs.Prelude.{All}
use Rattle.std.specs.List.{flat_map}
use Rattle.std.specs.List.Sorted.{IsPermutation}
use Rattle.std.proofs.lemmas.Bool.Decides.{nat_tests}
use Rattle.std.proofs.lemmas.List.{length-append, length-map}
use Rattle.std.proofs.lemmas.List.Elements.{Contains-get_or}
use Rattle.meta_types.specs.Paths.{ingest, content, snapshot, is_root}
use Rattle.meta_types.specs.declared.resource.Mode.TheVariants.{Full, Flat}
use Rattle.mark_core.specs.declared.graph.Graph.{Graph}
use Rattle.mark_core.specs.Reach.{node_count}
use Rattle.mark_core.specs.Nearest.{IsStart, IsDepth}
use Rattle.gc_graph.specs.declared.node.Node.{Node}
use Rattle.gc_graph.specs.declared.rows.StoreRows.{StoreRows}
use Rattle.gc_graph.specs.Stored.{records_of, IsSmall}
use Rattle.gc_graph.specs.Targets.{node_things, root_things}
use Rattle.gc_graph.specs.Built.{targets_in, root_places, IsBuilt}
use Rattle.gc_graph.proofs.References.{name_of}
use Rattle.gc_graph.proofs.Things.{nodes_are}
use Rattle.explaining.specs.Explained.{IsSplitGraphOf}
use Rattle.explaining.specs.ThingRows.{numbered}
use Rattle.explaining.specs.Searched.{HasGraph, IsSearched}
use Rattle.explaining.proofs.WalkPaths.{start_ends}

-- ---- few

no_more : (a b : ℕ) → nat_lt a b ≡ false → b ≤ a
no_more a b h = grind (arith, nat_tests)

pub few_numbered : (stored : StoreRows) → IsSmall stored → length (numbered (records_of stored)) ≤ 16777216
few_numbered stored small =
    let records = records_of stored in
    let i = map ingest records.tables.ingests in
    let fulls = map (content Full) records.tables.content in
    let flats = map (content Flat) records.tables.content in
    let snaps = map (snapshot Full) records.tables.snapshots in
    let flat_snaps = map (snapshot Flat) records.tables.snapshots in
    let a = length-append i ((fulls ++ flats) ++ (snaps ++ flat_snaps)) in
    let b = length-append (fulls ++ flats) (snaps ++ flat_snaps) in
    let d = length-append fulls flats in
    let f = length-append snaps flat_snaps in
    let li : length i ≡ length stored.ingests.now = length-map records.tables.ingests ingest in
    let lf : length fulls ≡ length stored.content.now = length-map records.tables.content (content Full) in
    let ll : length flats ≡ length stored.content.now = length-map records.tables.content (content Flat) in
    let ls : length snaps ≡ length stored.snapshots.now = length-map records.tables.snapshots (snapshot Full) in
    let lt : length flat_snaps ≡ length stored.snapshots.now = length-map records.tables.snapshots (snapshot Flat) in
    omega (arith, small, a, b, d, f, li, lf, ll, ls, lt)

-- ---- a search

-- the starts are those of a moment, and the graph serves for each
module _ (stored : StoreRows) (at : ℤ) (book : List Node) (graph : Graph) (own held : List ℕ) (small : IsSmall stored) (has : HasGraph (records_of stored) book graph)
    (owns : own ≡ root_places stored.profile at 0 (node_things (records_of stored))) (holds : IsPermutation (flat_map (targets_in book) (filter (is_root stored.profile at) (root_things (records_of stored)))) held) where
  abbrev built : IsBuilt (records_of stored) has.0 book graph
  built = has.1

  split : IsSplitGraphOf (records_of stored) at book graph own held
  split = record { built = has.0; numbered = built.numbered; once = built.once; graph_of = built.graph_of; owns = owns; holds = holds }

  counted : node_count graph ≡ length (numbered (records_of stored))
  counted = built.count ∙ ap length (built.numbered ∙ nodes_are (records_of stored)) ∙ length-map (node_things (records_of stored)) name_of

  pub few : node_count graph < 4294967295
  few = (let count = counted in let most = few_numbered stored small in omega (arith, count, most))

  start_below : (r cost : ℕ) → IsStart own held r cost → r < node_count graph
  start_below r cost is =
      let end = start_ends (records_of stored) at book graph own held split r cost is in
      let below = end.0 in
      let count = counted in
      omega (arith, below, count)

  pub own_below : All (λ r. r < node_count graph) own
  own_below i d lt = start_below (get_or own i d) 0 (inl (Contains-get_or own i d lt, refl))

  pub held_below : All (λ r. r < node_count graph) held
  held_below i d lt = start_below (get_or held i d) 1 (inr (Contains-get_or held i d lt, refl))

  pub searched : (depths : List (Option ℕ)) → length depths ≡ node_count graph → ((n : ℕ) → n < node_count graph → IsDepth graph own held n (get_or depths n None)) → IsSearched (records_of stored) at graph depths
  searched depths nodes deep = record {
    book = book;
    own = own;
    held = held;
    split = split;
    deep = λ n lt. deep n (let count = counted in omega (arith, lt, count));
    numbers = nodes ∙ counted;
    nodes = nodes;
    range = built.range;
    few = (let most = few in omega (arith, nodes, most));
  }
