-- The numbers of a store's things.
use Rattle.std.proofs.Common.{◌≡◌, ◌≢◌, ℕ, ◌<◌, true, false, List, [], ◌∷◌, ◌++◌, map, length, get_or, refl, sym, ap, ◌∙◌, arith, subst, inl, inr, ◌⊎◌, nat_lt, append_assoc, Some, None, is_some}
use Rattle.std.specs.Prelude.{All, AllPairs, Contains}
use Rattle.std.specs.List.{position_or_len}
use Rattle.std.proofs.lemmas.Bool.{cases_order, false_from_ne_true, cond-true}
use Rattle.std.proofs.lemmas.Bool.Decides.{Decides-ltb}
use Rattle.std.proofs.lemmas.List.Sums.{position_or_len_is}
use Rattle.std.proofs.lemmas.List.{map-append}
use Rattle.std.proofs.lemmas.List.Quantifiers.{position-Some}
use Rattle.std.proofs.lemmas.List.Elements.{Contains-append_left, Contains-append_right, Contains-append_cases}
use Rattle.meta_types.specs.Rows.{Records}
use Rattle.meta_types.specs.Paths.{in_both_modes, Thing, image, container, lease, ingest, content, snapshot, things}
use Rattle.meta_types.specs.declared.resource.Mode.TheVariants.{Full, Flat}
use Rattle.gc_graph.specs.declared.node.Node.{Node}
use Rattle.gc_graph.specs.Nodes.{is_node}
use Rattle.gc_graph.specs.Targets.{node_of, nodes_of, node_things, root_things}
use Rattle.gc_graph.specs.Built.{number_of}
use Rattle.gc_graph.proofs.Same.{node_known, node_self}
use Rattle.gc_graph.proofs.NodesApart.{All-map, All-append}
use Rattle.gc_graph.proofs.References.{name_of}

-- ---- numbers

-- two maps, one after the other, are one map by both functions
pub map_of_map : {X Y Z : Type 0} (f : Y → Z) (h : X → Y) (xs : List X) → map f (map h xs) ≡ map (λ x. f (h x)) xs
map_of_map f h [] = refl
map_of_map f h (x ∷ xs) = ap (λ rest. f (h x) ∷ rest) (map_of_map f h xs)

-- the things that have numbers, and their nodes
pub nodes_are : (records : Records) → nodes_of records ≡ map name_of (node_things records)
nodes_are records = simp (map-append, map_of_map)

-- a number belongs to one node
module _ (book : List Node) (once : AllPairs (λ a b. a ≢ b) book) where
  pub same_place : (i j : ℕ) (d : Node) → i < length book → j < length book → get_or book i d ≡ get_or book j d → i ≡ j
  same_place i j d in_i in_j e = elim (cases_order i j) [
    | inl same ↦ same
    | inr rest ↦ elim rest [
      | inl below ↦ absurd (once i j d below in_j e)
      | inr above ↦ absurd (once j i d above in_i (sym e))
    ]
  ]

  pub numbered_at : (node : Node) (n : ℕ) (d : Node) → number_of book node ≡ Some n → (n < length book) × (get_or book n d ≡ node)
  numbered_at node n d e = let found = position-Some (is_node node) book n d e in (found.0, sym (node_known node (get_or book n d) found.1))

  -- if each node is in the book once, a node's number is its place
  pub number_at : (node : Node) (n : ℕ) (d : Node) → n < length book → get_or book n d ≡ node → number_of book node ≡ Some n
  number_at node n d lt is =
      let first : position_or_len (is_node node) book ≡ n = position_or_len_is (is_node node) book n d (omega arith)
      (λ k below. false_from_ne_true (is_node node (get_or book k d)) (λ t. once k n d below lt (sym (node_known node (get_or book k d) t) ∙ sym is)))
      (λ within. ap (is_node node) is ∙ node_self node) in
      rw first (cond-true (nat_lt n (length book)) (Some n) None ((Decides-ltb n (length book)).1 lt))

-- ---- the things of a store

-- the thing has a node in the graph
abbrev pub HasNode : Thing → Type 0
HasNode t = is_some (node_of t) ≡ true

-- the thing has no node in the graph
abbrev pub HasNone : Thing → Type 0
HasNone t = is_some (node_of t) ≡ false

module _ (records : Records) where
  abbrev numbered_things : List Thing
  numbered_things = node_things records

  -- the things of a store are those without a node, then the numbered ones
  pub things_split : things records ≡ root_things records ++ numbered_things
  things_split =
      let firsts = root_things records ++ map ingest records.tables.ingests in
      append_assoc firsts (in_both_modes content records.tables.content) (in_both_modes snapshot records.tables.snapshots)
      ∙ append_assoc (root_things records) (map ingest records.tables.ingests) (in_both_modes content records.tables.content ++ in_both_modes snapshot records.tables.snapshots)

  -- each numbered thing has a node
  pub with_nodes : All HasNode numbered_things
  with_nodes =
      All-append HasNode (map ingest records.tables.ingests) (in_both_modes content records.tables.content ++ in_both_modes snapshot records.tables.snapshots)
      (All-map HasNode ingest records.tables.ingests (λ i d lt. refl))
      (All-append HasNode (in_both_modes content records.tables.content) (in_both_modes snapshot records.tables.snapshots)
      (All-append HasNode (map (content Full) records.tables.content) (map (content Flat) records.tables.content)
      (All-map HasNode (content Full) records.tables.content (λ i d lt. refl)) (All-map HasNode (content Flat) records.tables.content (λ i d lt. refl)))
      (All-append HasNode (map (snapshot Full) records.tables.snapshots) (map (snapshot Flat) records.tables.snapshots)
      (All-map HasNode (snapshot Full) records.tables.snapshots (λ i d lt. refl)) (All-map HasNode (snapshot Flat) records.tables.snapshots (λ i d lt. refl))))

  -- no image, container or lease has a node
  pub without_nodes : All HasNone (root_things records)
  without_nodes =
      All-append HasNone (map image records.tables.images ++ map container records.tables.containers) (map lease records.leases)
      (All-append HasNone (map image records.tables.images) (map container records.tables.containers)
      (All-map HasNone image records.tables.images (λ i d lt. refl)) (All-map HasNone container records.tables.containers (λ i d lt. refl)))
      (All-map HasNone lease records.leases (λ i d lt. refl))

  pub is_thing : (t : Thing) → Contains numbered_things t → Contains (things records) t
  is_thing t c = subst (λ (l : List Thing). Contains l t) (sym things_split) (Contains-append_right (root_things records) numbered_things t c)

  -- an image, a container or a lease of the store is a thing of the store
  pub is_root_thing : (t : Thing) → Contains (root_things records) t → Contains (things records) t
  is_root_thing t c = subst (λ (l : List Thing). Contains l t) (sym things_split) (Contains-append_left (root_things records) numbered_things t c)

  -- a thing of the store is an image, a container or a lease, or it is numbered
  pub split_thing : (t : Thing) → Contains (things records) t → Contains (root_things records) t ⊎ Contains numbered_things t
  split_thing t c = Contains-append_cases (root_things records) numbered_things t (subst (λ (l : List Thing). Contains l t) things_split c)
