-- Walks from a start are paths of references, thing by thing.
use Rattle.std.proofs.Common.{◌≡◌, ℕ, ◌+◌, ◌<◌, ◌≤◌, true, List, [], ◌∷◌, ◌++◌, length, get_or, refl, sym, ap, ◌∙◌, arith, subst, inl, inr, ℤ, filter, Some, None}
use Rattle.std.specs.Prelude.{Contains}
use Rattle.std.proofs.lemmas.Bool.{false≢true}
use Rattle.std.specs.List.{flat_map}
use Rattle.std.proofs.lemmas.List.{length-append}
use Rattle.std.proofs.lemmas.List.Sorted.{Contains-permutation, IsPermutation-sym}
use Rattle.meta_types.specs.Rows.{Records}
use Rattle.meta_types.specs.Paths.{Thing, ingest, things, has_edge, is_root, IsPath}
use Rattle.meta_types.specs.Walks.{IsWalk, end_of}
use Rattle.meta_types.proofs.Members.{in_filter, from_filter}
use Rattle.mark_core.specs.declared.graph.Graph.{Graph}
use Rattle.mark_core.specs.Reach.{rows, targets}
use Rattle.gc_graph.specs.declared.node.Node.{Node}
use Rattle.gc_graph.specs.Targets.{node_of, node_things, root_things}
use Rattle.gc_graph.specs.Built.{number_of, targets_in, root_places}
use Rattle.gc_graph.proofs.Lists.{in_flat_map, from_flat_map, in_places, from_places}
use Rattle.gc_graph.proofs.References.{no_edge}
use Rattle.gc_graph.proofs.Things.{HasNone, without_nodes, is_root_thing, split_thing}
use Rattle.gc_graph.proofs.Walks.{targets_at, edge_number, number_edge, at_place, thing_at}
use Rattle.mark_core.specs.Nearest.{IsStart, IsWalkTo, IsNearest}
use Rattle.mark_core.proofs.WalkEnds.{walk_push, end_push}
use Rattle.explaining.specs.Explained.{IsSplitGraphOf, HasShortestPath}

-- what a path ends in is there
pub in_store : (records : Records) (at : ℤ) (last : Thing) (path : List Thing) → IsPath records at last path → Contains (things records) last
in_store records at last [] p = p.0
in_store records at last (before ∷ path) p = p.0

-- a path that ends in an image, a container or a lease is that root alone
pub ends_alone : (records : Records) (at : ℤ) (last : Thing) (path : List Thing) → IsPath records at last path → Contains (root_things records) last → is_root records.profile at last ≡ true
ends_alone records at last [] p c = p.1
ends_alone records at last (before ∷ path) p (k, lt, is) = absurd (false≢true (sym (no_edge before last (subst HasNone is (without_nodes records k last lt))) ∙ p.1))

-- at a step more
walk_to_push : (g : Graph) (own held : List ℕ) (a cost b : ℕ) (walk : List ℕ) → IsWalkTo g own held a cost walk → Contains (targets g a) b → IsWalkTo g own held b (cost + 1) (walk ++ b ∷ [])
walk_to_push g own held a cost b [] w c = absurd w
walk_to_push g own held a cost b (start ∷ walk) (first, is, leads, ends, price) c =
    let l = length-append walk (b ∷ []) in
    (first, is, walk_push (rows g) start walk b leads (subst (λ x. Contains (targets g x) b) (sym ends) c), end_push start walk b, omega arith)

module _ (records : Records) (at : ℤ) (book : List Node) (graph : Graph) (own held : List ℕ) (s : IsSplitGraphOf records at book graph own held) where
  abbrev numbered_things : List Thing
  numbered_things = node_things records

  -- what an image, a container or a lease holds
  abbrev all_held : List ℕ
  all_held = flat_map (targets_in book) (filter (is_root records.profile at) (root_things records))

  -- ---- walks are paths

  -- a path with this count of things before its last ends in the thing of the number
  abbrev IsEnd : ℕ → ℕ → Type 0
  IsEnd n cost = (n < length numbered_things) × ((d : Thing) → (path : List Thing) × IsPath records at (get_or numbered_things n d) path × (length path ≡ cost))

  pub start_ends : (r cost : ℕ) → IsStart own held r cost → IsEnd r cost
  start_ends r cost (inl (c, free)) =
      let found = from_places records.profile at 0 numbered_things r (subst (λ (l : List ℕ). Contains l r) s.owns c) in
      let same : found.0 ≡ r = omega (arith, found.2) in
      let lt : r < length numbered_things = omega (arith, found.1, found.2) in
      (lt, λ d. ([], (at_place records s.built book graph s.numbered s.once s.graph_of r d lt, subst (λ k. is_root records.profile at (get_or numbered_things k d) ≡ true) same (found.3 d)), sym free))
  start_ends r cost (inr (c, one)) =
      let found = from_flat_map (targets_in book) (filter (is_root records.profile at) (root_things records)) r (Contains-permutation held all_held r (IsPermutation-sym all_held held s.holds) c) in
      let both = from_filter (is_root records.profile at) (root_things records) found.0 found.1 in
      let edge = number_edge records s.built book graph s.numbered s.once s.graph_of found.0 r found.2 in
      (edge.0, λ d. (found.0 ∷ [], (at_place records s.built book graph s.numbered s.once s.graph_of r d edge.0, edge.1 d, (is_root_thing records found.0 both.0, both.1)), sym one))

  target_ends : (a b cost : ℕ) → IsEnd a cost → Contains (targets graph a) b → IsEnd b (cost + 1)
  target_ends a b cost end c =
      let any : Thing = ingest (record { ns = []; name = []; expected = None; expires = None; number = 0; extra = [] }) in
      let edge = λ (d : Thing). number_edge records s.built book graph s.numbered s.once s.graph_of (get_or numbered_things a d) b (subst (λ (l : List ℕ). Contains l b) (targets_at records s.built book graph s.numbered s.once s.graph_of a d end.0) c) in
      ((edge any).0, λ d. let p = end.1 d in (get_or numbered_things a d ∷ p.0, (at_place records s.built book graph s.numbered s.once s.graph_of b d (edge any).0, (edge d).1 d, p.1), (let l = p.2 in omega arith)))

  along : (a cost : ℕ) (walk : List ℕ) → IsEnd a cost → IsWalk (rows graph) a walk → IsEnd (end_of a walk) (cost + length walk)
  along a cost [] end w = subst (IsEnd a) (omega arith) end
  along a cost (b ∷ walk) end w = subst (IsEnd (end_of b walk)) (omega arith) (along b (cost + 1) walk (target_ends a b cost end w.0) w.1)

  pub walk_ends : (n cost : ℕ) (walk : List ℕ) → IsWalkTo graph own held n cost walk → IsEnd n cost
  walk_ends n cost [] w = absurd w
  walk_ends n cost (start ∷ walk) (first, is, leads, ends, price) =
      subst (λ k. IsEnd k cost) ends (subst (IsEnd (end_of start walk)) (sym price) (along start first walk (start_ends start first is) leads))

  -- ---- paths are walks

  -- a walk that costs no more than the path has things before its last
  abbrev IsWalked : ℕ → ℕ → Type 0
  IsWalked n long = (cost : ℕ) × (walk : List ℕ) × IsWalkTo graph own held n cost walk × (cost ≤ long)

  pub path_walked : (last : Thing) (path : List Thing) → IsPath records at last path → (i : ℕ) (d : Thing) → i < length numbered_things → get_or numbered_things i d ≡ last → IsWalked i (length path)
  path_walked last [] p i d lt is =
      let here : Contains own i = subst (λ (l : List ℕ). Contains l i) (sym s.owns) (subst (λ k. Contains (root_places records.profile at 0 numbered_things) k) (omega arith) (in_places records.profile at 0 numbered_things i d lt (ap (is_root records.profile at) is ∙ p.1))) in
      (0, i ∷ [], (0, inl (here, refl), tt, refl, omega arith), omega arith)
  path_walked last (before ∷ path) p i d lt is =
      let edge : Contains (targets_in book before) i = edge_number records s.built book graph s.numbered s.once s.graph_of before i d lt (ap (has_edge before) is ∙ p.1) in
      elim (split_thing records before (in_store records at before path p.2)) [
        | inl by_thing ↦ (
            let root : is_root records.profile at before ≡ true = ends_alone records at before path p.2 by_thing in
            let here : Contains held i = Contains-permutation all_held held i s.holds (in_flat_map (targets_in book) (filter (is_root records.profile at) (root_things records)) before i (in_filter (is_root records.profile at) (root_things records) before by_thing root) edge) in
            (1, i ∷ [], (1, inr (here, refl), tt, refl, omega arith), omega arith))
        | inr (j, below, same) ↦ (
            let w : IsWalked j (length path) = path_walked before path p.2 j before below same in
            let c : Contains (targets graph j) i = subst (λ (l : List ℕ). Contains l i) (sym (targets_at records s.built book graph s.numbered s.once s.graph_of j before below)) (subst (λ t. Contains (targets_in book t) i) (sym same) edge) in
            (w.0 + 1, w.1 ++ i ∷ [], walk_to_push graph own held j w.0 i w.1 w.2 c, (let h = w.3 in omega arith)))
      ]

  -- ---- each thing

  module _ (thing : Thing) (node : Node) (n : ℕ) (c : Contains (things records) thing) (e : node_of thing ≡ Some node) (at_n : number_of book node ≡ Some n) where
    -- a nearest walk to the thing's number gives a path to the thing, and no path has fewer things
    pub shortest : (walk : List ℕ) → IsNearest graph own held n walk → HasShortestPath records at thing
    shortest walk (cost, is, least) =
        let place = thing_at records s.built book graph s.numbered s.once s.graph_of thing node n c e at_n in
        let p = (walk_ends n cost walk is).1 thing in (
          p.0,
          subst (λ (t : Thing). IsPath records at t p.0) place.1 p.1,
          λ other o. let w : IsWalked n (length other) = path_walked thing other o n thing place.0 place.1 in
              let h : cost ≤ w.0 = least w.1 w.0 w.2 in
              let l = p.2 in
              let k = w.3 in
              omega arith,
        )

    -- if no walk leads to the thing's number, no path ends in the thing
    pub none : ((walk : List ℕ) (cost : ℕ) → IsWalkTo graph own held n cost walk → ⊥) → (path : List Thing) → IsPath records at thing path → ⊥
    none nowhere path p =
        let place = thing_at records s.built book graph s.numbered s.once s.graph_of thing node n c e at_n in
        let w : IsWalked n (length path) = path_walked thing path p n thing place.0 place.1 in
        nowhere w.1 w.0 w.2
