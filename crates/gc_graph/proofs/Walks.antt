-- Walks of the graph are the reference paths of the store.
use Rattle.std.proofs.Common.{◌≡◌, ◌≢◌, ℕ, ◌<◌, true, List, [], ◌∷◌, ◌++◌, length, get_or, refl, sym, ap, ◌∙◌, arith, subst, inl, inr, ℤ, filter, Some, None, is_some}
use Rattle.std.specs.Prelude.{All, AllPairs, Contains, ◌↔◌}
use Rattle.std.specs.List.{flat_map}
use Rattle.std.proofs.lemmas.Bool.{false≢true}
use Rattle.std.proofs.Math.ListN.{get_or-map as get_or-map_at}
use Rattle.std.proofs.lemmas.List.{length-map, get_or-map}
use Rattle.std.proofs.lemmas.List.Elements.{Contains-append_left, Contains-append_right, Contains-append_cases, Contains-get_or}
use Rattle.std.proofs.lemmas.List.Sorted.{Contains-permutation, IsPermutation-sym}
use Rattle.meta_types.specs.Rows.{Records}
use Rattle.meta_types.specs.Paths.{Thing, image, container, lease, ingest, content, snapshot, things, has_edge, is_root, IsPath, IsReached}
use Rattle.meta_types.proofs.Members.{in_filter, from_filter, any_from, found_by_any}
use Rattle.mark_core.specs.declared.graph.Graph.{Graph}
use Rattle.mark_core.specs.Reach.{targets, node_count, IsInRange, Reached}
use Rattle.mark_core.proofs.Walks.{reached_in, Reached-root, Reached-target}
use Rattle.gc_graph.specs.declared.node.Node.{Node}
use Rattle.gc_graph.specs.Nodes.{is_node}
use Rattle.gc_graph.specs.Targets.{node_of, nodes_of, node_things, root_things, targets_of}
use Rattle.gc_graph.specs.Built.{number_of, targets_in, root_places, IsGraphOf, AreApart, IsBuilt}
use Rattle.gc_graph.proofs.Same.{node_known, node_self}
use Rattle.gc_graph.proofs.NodesApart.{All-map, nodes_apart}
use Rattle.gc_graph.proofs.References.{name_of, edge_says, no_edge}
use Rattle.gc_graph.proofs.Lists.{in_filter_map, from_filter_map, in_flat_map, from_flat_map, in_places, from_places}
use Rattle.gc_graph.proofs.Things.{nodes_are, same_place, numbered_at, number_at, HasNode, HasNone, with_nodes, without_nodes, is_thing, is_root_thing, split_thing}

module _ (records : Records) where
  abbrev numbered_things : List Thing
  numbered_things = node_things records

  module _ (at : ℤ) (book : List Node) (graph : Graph) (numbered : book ≡ nodes_of records) (once : AllPairs (λ a b. a ≢ b) book) (g : IsGraphOf records at book graph) where
    long : length book ≡ length numbered_things
    long = ap length (numbered ∙ nodes_are records) ∙ length-map numbered_things name_of

    name_at : (i : ℕ) (d : Thing) → get_or book i (name_of d) ≡ name_of (get_or numbered_things i d)
    name_at i d = ap (λ (b : List Node). get_or b i (name_of d)) (numbered ∙ nodes_are records) ∙ get_or-map_at name_of numbered_things i d

    -- the targets of a number are the numbers of what the thing at its place references
    pub targets_at : (i : ℕ) (d : Thing) → i < length numbered_things → targets graph i ≡ targets_in book (get_or numbered_things i d)
    targets_at i d lt = ap (λ (rs : List (List ℕ)). get_or rs i []) g.edges ∙ get_or-map (targets_in book) numbered_things i d [] lt

    -- if a thing references the thing at a place, that place is among the numbers of its targets
    pub edge_number : (a : Thing) (i : ℕ) (d : Thing) → i < length numbered_things → has_edge a (get_or numbered_things i d) ≡ true → Contains (targets_in book a) i
    edge_number a i d lt h =
        let b = get_or numbered_things i d in
        let found = found_by_any (λ t. is_node t (name_of b)) (targets_of a) (sym (edge_says a b (with_nodes records i d lt)) ∙ h) in
        in_filter_map (number_of book) (targets_of a) found.0 i found.1 (number_at book once found.0 i (name_of d) (omega (arith, long)) (name_at i d ∙ sym (node_known found.0 (name_of b) found.2)))

    -- each of the numbers of a thing's targets is the place of a thing that it references
    pub number_edge : (a : Thing) (k : ℕ) → Contains (targets_in book a) k → (k < length numbered_things) × ((d : Thing) → has_edge a (get_or numbered_things k d) ≡ true)
    number_edge a k c =
        let found = from_filter_map (number_of book) (targets_of a) k c in
        let lt : k < length numbered_things = omega (arith, long, (numbered_at book once found.0 k found.0 found.2).0) in (
          lt,
          λ d. edge_says a (get_or numbered_things k d) (with_nodes records k d lt)
              ∙ any_from (λ t. is_node t (name_of (get_or numbered_things k d))) (targets_of a) found.0 found.1
              (ap (λ n. is_node found.0 n) (sym (name_at k d) ∙ (numbered_at book once found.0 k (name_of d) found.2).1) ∙ node_self found.0),
        )

    -- ---- walks are paths

    abbrev IsEnd : ℕ → Type 0
    IsEnd n = (n < length numbered_things) × ((d : Thing) → IsReached records at (get_or numbered_things n d))

    -- the roots by their things, then those by their places
    abbrev all_roots : List ℕ
    all_roots = flat_map (targets_in book) (filter (is_root records.profile at) (root_things records))
        ++ root_places records.profile at 0 numbered_things

    is_graph_root : (r : ℕ) → Contains all_roots r → Contains graph.roots.items r
    is_graph_root r c = Contains-permutation all_roots graph.roots.items r g.roots c

    -- the thing at a place is a thing of the store
    pub at_place : (i : ℕ) (d : Thing) → i < length numbered_things → Contains (things records) (get_or numbered_things i d)
    at_place i d lt = is_thing records (get_or numbered_things i d) (Contains-get_or numbered_things i d lt)

    root_ends : (r : ℕ) → Contains graph.roots.items r → IsEnd r
    root_ends r c = elim (Contains-append_cases (flat_map (targets_in book) (filter (is_root records.profile at) (root_things records))) (root_places records.profile at 0 numbered_things) r (Contains-permutation graph.roots.items all_roots r (IsPermutation-sym all_roots graph.roots.items g.roots) c)) [
      | inl by_thing ↦ (
          let found = from_flat_map (targets_in book) (filter (is_root records.profile at) (root_things records)) r by_thing in
          let both = from_filter (is_root records.profile at) (root_things records) found.0 found.1 in
          let edge = number_edge found.0 r found.2 in
          (edge.0, λ d. (found.0 ∷ [], (at_place r d edge.0, edge.1 d, (is_root_thing records found.0 both.0, both.1)))))
      | inr by_place ↦ (
          let found = from_places records.profile at 0 numbered_things r by_place in
          let same : found.0 ≡ r = omega (arith, found.2) in
          let lt : r < length numbered_things = omega (arith, found.1, found.2) in
          (lt, λ d. ([], (at_place r d lt, subst (λ k. is_root records.profile at (get_or numbered_things k d) ≡ true) same (found.3 d)))))
    ]

    target_ends : (a b : ℕ) → IsEnd a → Contains (targets graph a) b → IsEnd b
    target_ends a b end c =
        let any : Thing = ingest (record { ns = []; name = []; expected = None; expires = None; number = 0; extra = [] }) in
        let edge = λ (d : Thing). number_edge (get_or numbered_things a d) b (subst (λ (l : List ℕ). Contains l b) (targets_at a d end.0) c) in
        ((edge any).0, λ d. (get_or numbered_things a d ∷ (end.1 d).0, (at_place b d (edge any).0, (edge d).1 d, (end.1 d).1)))

    pub end_if_walked : (n : ℕ) → Reached graph n → IsEnd n
    end_if_walked n r = reached_in graph IsEnd target_ends root_ends n r

    -- ---- paths are walks

    pub in_store : (last : Thing) (path : List Thing) → IsPath records at last path → Contains (things records) last
    in_store last [] p = p.0
    in_store last (before ∷ path) p = p.0

    no_edge_to_root : (a b : Thing) → Contains (root_things records) b → has_edge a b ≡ true → ⊥
    no_edge_to_root a b (k, lt, is) h = false≢true (sym (no_edge a b (subst HasNone is (without_nodes records k b lt))) ∙ h)

    -- a path that ends in an image, a container or a lease is that root alone
    pub ends_alone : (last : Thing) (path : List Thing) → IsPath records at last path → Contains (root_things records) last → is_root records.profile at last ≡ true
    ends_alone last [] p c = p.1
    ends_alone last (before ∷ path) p c = absurd (no_edge_to_root before last c p.1)

    by_place_root : (i : ℕ) (d : Thing) → i < length numbered_things → is_root records.profile at (get_or numbered_things i d) ≡ true → Reached graph i
    by_place_root i d lt h = Reached-root graph i (is_graph_root i
        (Contains-append_right (flat_map (targets_in book) (filter (is_root records.profile at) (root_things records))) (root_places records.profile at 0 numbered_things) i
        (subst (λ k. Contains (root_places records.profile at 0 numbered_things) k) (omega arith) (in_places records.profile at 0 numbered_things i d lt h))))

    by_thing_root : (a : Thing) → Contains (root_things records) a → is_root records.profile at a ≡ true → (i : ℕ) → Contains (targets_in book a) i → Reached graph i
    by_thing_root a c h i t = Reached-root graph i (is_graph_root i
        (Contains-append_left (flat_map (targets_in book) (filter (is_root records.profile at) (root_things records))) (root_places records.profile at 0 numbered_things) i
        (in_flat_map (targets_in book) (filter (is_root records.profile at) (root_things records)) a i (in_filter (is_root records.profile at) (root_things records) a c h) t)))

    pub walked_if_end : (last : Thing) (path : List Thing) → IsPath records at last path → (i : ℕ) (d : Thing) → i < length numbered_things → get_or numbered_things i d ≡ last → Reached graph i
    walked_if_end last [] p i d lt is = by_place_root i d lt (ap (is_root records.profile at) is ∙ p.1)
    walked_if_end last (before ∷ path) p i d lt is =
        let edge : Contains (targets_in book before) i = edge_number before i d lt (ap (has_edge before) is ∙ p.1) in
        elim (split_thing records before (in_store before path p.2)) [
          | inl by_thing ↦ by_thing_root before by_thing (ends_alone before path p.2 by_thing) i edge
          | inr (j, below, same) ↦ Reached-target graph j i (walked_if_end before path p.2 j before below same)
              (subst (λ (l : List ℕ). Contains l i) (sym (targets_at j before below)) (subst (λ t. Contains (targets_in book t) i) (sym same) edge))
        ]

    -- ---- each thing

    node_name : (thing : Thing) (node : Node) → node_of thing ≡ Some node → (name_of thing ≡ node) × HasNode thing
    node_name (image row) node e = absurd cc
    node_name (container row) node e = absurd cc
    node_name (lease row) node e = absurd cc
    node_name (ingest row) node e = (cc, refl)
    node_name (content mode row) node e = (cc, refl)
    node_name (snapshot mode row) node e = (cc, refl)

    -- a thing stands at the place that is its node's number
    pub thing_at : (thing : Thing) (node : Node) (n : ℕ) → Contains (things records) thing → node_of thing ≡ Some node → number_of book node ≡ Some n → (n < length numbered_things) × (get_or numbered_things n thing ≡ thing)
    thing_at thing node n c e at_n =
        let name = node_name thing node e in
        let found = numbered_at book once node n (name_of thing) at_n in
        elim (split_thing records thing c) [
          | inl (k, lt, is) ↦ absurd (false≢true (sym (subst HasNone is (without_nodes records k thing lt)) ∙ name.1))
          | inr (j, below, is) ↦ (
              let same : j ≡ n = same_place book once j n (name_of thing) (omega (arith, long)) found.0 (name_at j thing ∙ ap name_of is ∙ name.0 ∙ sym found.1) in
              (omega (arith, long, found.0), subst (λ k. get_or numbered_things k thing ≡ thing) same is))
        ]

    pub each_thing : (thing : Thing) (node : Node) (n : ℕ) → Contains (things records) thing → node_of thing ≡ Some node → number_of book node ≡ Some n → Reached graph n ↔ IsReached records at thing
    each_thing thing node n c e at_n =
        let place = thing_at thing node n c e at_n in (
          (λ r. subst (IsReached records at) place.1 ((end_if_walked n r).1 thing)),
          (λ reached. walked_if_end thing reached.0 reached.1 n thing place.0 place.1),
        )

    -- ---- range

    count_is : node_count graph ≡ length book
    count_is = ap length g.edges ∙ length-map numbered_things (targets_in book) ∙ sym long

    numbers_below : (a : Thing) → All (λ k. k < node_count graph) (targets_in book a)
    numbers_below a i d lt = let edge = number_edge a (get_or (targets_in book a) i d) (Contains-get_or (targets_in book a) i d lt) in omega (arith, edge.0, count_is, long)

    in_range : IsInRange graph
    in_range = (
      subst (λ (rs : List (List ℕ)). All (λ ts. All (λ b. b < node_count graph) ts) rs) (sym g.edges) (All-map (λ ts. All (λ b. b < node_count graph) ts) (targets_in book) numbered_things (λ i d lt. numbers_below (get_or numbered_things i d))),
      (λ i d lt. let end = root_ends (get_or graph.roots.items i d) (Contains-get_or graph.roots.items i d lt) in omega (arith, end.0, count_is, long)),
    )

-- a graph made row by row says which things paths end in
pub is_built : (records : Records) (at : ℤ) (book : List Node) (graph : Graph) → AreApart records → book ≡ nodes_of records → IsGraphOf records at book graph → IsBuilt records at book graph
is_built records at book graph apart numbered g =
    let once : AllPairs (λ a b. a ≢ b) book = subst (λ (b : List Node). AllPairs (λ x y. x ≢ y) b) (sym numbered) (nodes_apart records apart) in
    record {
      numbered = numbered;
      once = once;
      graph_of = g;
      range = in_range records at book graph numbered once g;
      count = count_is records at book graph numbered once g;
      each = each_thing records at book graph numbered once g;
    }

-- a path that ends where no node is, is that root alone
pub root_alone : (records : Records) (at : ℤ) (last : Thing) (path : List Thing) → IsPath records at last path → node_of last ≡ None → is_root records.profile at last ≡ true
root_alone records at last [] p none = p.1
root_alone records at last (before ∷ path) p none = absurd (false≢true (sym (no_edge before last (ap is_some none)) ∙ p.1))

-- each thing with a node has a number
pub number_is : (records : Records) (book : List Node) → book ≡ nodes_of records → AllPairs (λ a b. a ≢ b) book → (thing : Thing) (node : Node) → Contains (things records) thing → node_of thing ≡ Some node → (n : ℕ) × (number_of book node ≡ Some n)
number_is records book numbered once thing node c e =
    let some : is_some (node_of thing) ≡ true = ap is_some e in
    elim (split_thing records thing c) [
      | inl (k, lt, is) ↦ absurd (false≢true (sym (subst HasNone is (without_nodes records k thing lt)) ∙ some))
      | inr (j, below, is) ↦ (
          let long : length book ≡ length (node_things records) = ap length (numbered ∙ nodes_are records) ∙ length-map (node_things records) name_of in
          let at_j : get_or book j (name_of thing) ≡ name_of (get_or (node_things records) j thing) = ap (λ (b : List Node). get_or b j (name_of thing)) (numbered ∙ nodes_are records) ∙ get_or-map_at name_of (node_things records) j thing in
          (j, number_at book once node j (name_of thing) (omega (arith, long)) (at_j ∙ ap name_of is ∙ name_is thing node e)))
    ]
  where
    name_is : (thing : Thing) (node : Node) → node_of thing ≡ Some node → name_of thing ≡ node
    name_is (image row) node e = absurd cc
    name_is (container row) node e = absurd cc
    name_is (lease row) node e = absurd cc
    name_is (ingest row) node e = cc
    name_is (content mode row) node e = cc
    name_is (snapshot mode row) node e = cc
