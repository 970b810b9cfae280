-- Of all shortest paths to a thing the first.
use Rattle.std.proofs.Common.{◌≡◌, ℕ, zero, suc, ◌+◌, ◌<◌, ◌≤◌, true, false, List, [], ◌∷◌, ◌++◌, map, length, get_or, refl, sym, ap, ◌∙◌, subst, inl, inr, ◌⊎◌, arith, ℤ, Option, Some, None, is_some}
use Rattle.std.specs.Prelude.{Contains, IsTrue, ◌==◌, option_map}
use Rattle.std.specs.List.{list_any}
use Rattle.std.specs.Option.{option_map_or}
use Rattle.std.proofs.lemmas.Bool.{both_ways, false≢true, false_from_ne_true, and_parts, and_from}
use Rattle.std.proofs.lemmas.Bool.Decides.{nat_tests}
use Rattle.meta_types.specs.Rows.{Records}
use Rattle.meta_types.specs.Paths.{Thing, image, container, lease, ingest, content, snapshot, has_edge, is_root, IsPath}
use Rattle.meta_types.specs.Walks.{end_of}
use Rattle.meta_types.specs.Explanations.{thing_key, goes_before, IsFirst, EndsPath, IsFirstBack}
use Rattle.meta_types.proofs.Ordered.{before_trans}
use Rattle.meta_types.proofs.OneRowPerKey.{not_before_itself}
use Rattle.meta_types.proofs.Members.{any_from, found_by_any}
use Rattle.mark_core.specs.declared.graph.Graph.{Graph}
use Rattle.mark_core.specs.Reach.{targets}
use Rattle.gc_graph.specs.declared.node.Node.{Node}
use Rattle.gc_graph.specs.Targets.{root_things}
use Rattle.gc_graph.proofs.References.{no_edge}
use Rattle.gc_graph.proofs.Things.{HasNode, HasNone, with_nodes, without_nodes, is_root_thing, split_thing}
use Rattle.gc_graph.proofs.Walks.{targets_at, edge_number, number_edge, at_place}
use Rattle.mark_core.specs.Nearest.{IsDepth}
use Rattle.mark_core.specs.Firsts.{leads, is_step}
use Rattle.explaining.specs.Explained.{IsSplitGraphOf}
use Rattle.explaining.specs.ThingRows.{numbered, no_thing, thing_at}
use Rattle.explaining.specs.Searched.{IsSearched}
use Rattle.explaining.specs.ShortestPaths.{IsFirstTo}
use Rattle.explaining.specs.Firsts.{is_holder, holder_of, number_before, first_leading, chain, or_else, listed, root_before}
use Rattle.explaining.proofs.Choices.{IsBest, one_more, same_best, best_of, below_or_this}
use Rattle.explaining.proofs.ReasonEdges.{reason_edge}
use Rattle.explaining.proofs.WalkPaths.{in_store, walk_ends, path_walked}

-- ---- the order

pub not_itself : (a : Thing) → goes_before a a ≡ false
not_itself a = false_from_ne_true (goes_before a a) (not_before_itself (thing_key a))

pub onward : (a b c : Thing) → goes_before a b ≡ true → goes_before b c ≡ true → goes_before a c ≡ true
onward a b c p q = before_trans (thing_key a) (thing_key b) (thing_key c) p q

-- what has a number stands behind what has none
pub behind_roots : (t root : Thing) → HasNode t → HasNone root → goes_before t root ≡ false
behind_roots (image r) root n h = absurd (false≢true n)
behind_roots (container r) root n h = absurd (false≢true n)
behind_roots (lease r) root n h = absurd (false≢true n)
behind_roots (ingest r) (image q) n h = refl
behind_roots (ingest r) (container q) n h = refl
behind_roots (ingest r) (lease q) n h = refl
behind_roots (ingest r) (ingest q) n h = absurd (false≢true (sym h))
behind_roots (ingest r) (content m q) n h = absurd (false≢true (sym h))
behind_roots (ingest r) (snapshot m q) n h = absurd (false≢true (sym h))
behind_roots (content k r) (image q) n h = refl
behind_roots (content k r) (container q) n h = refl
behind_roots (content k r) (lease q) n h = refl
behind_roots (content k r) (ingest q) n h = absurd (false≢true (sym h))
behind_roots (content k r) (content m q) n h = absurd (false≢true (sym h))
behind_roots (content k r) (snapshot m q) n h = absurd (false≢true (sym h))
behind_roots (snapshot k r) (image q) n h = refl
behind_roots (snapshot k r) (container q) n h = refl
behind_roots (snapshot k r) (lease q) n h = refl
behind_roots (snapshot k r) (ingest q) n h = absurd (false≢true (sym h))
behind_roots (snapshot k r) (content m q) n h = absurd (false≢true (sym h))
behind_roots (snapshot k r) (snapshot m q) n h = absurd (false≢true (sym h))

one_step : (d : ℕ) → (d + 1 == suc d) ≡ true
one_step d = grind (arith, nat_tests)

step_is : (a d : ℕ) → (a + 1 == suc d) ≡ true → a ≡ d
step_is a d h = grind (arith, nat_tests)

same_number : (a b : ℕ) → (a == b) ≡ true → a ≡ b
same_number a b h = grind (arith, nat_tests)

number_itself : (a : ℕ) → (a == a) ≡ true
number_itself a = grind (arith, nat_tests)

-- at a place of a list its default is free
pub default_free : (xs : List Thing) (i : ℕ) → i < length xs → (a b : Thing) → get_or xs i a ≡ get_or xs i b
default_free [] i lt a b = absurd (omega arith)
default_free (x ∷ xs) zero lt a b = refl
default_free (x ∷ xs) (suc i) lt a b = default_free xs i (omega arith) a b

module _ (records : Records) (at : ℤ) (graph : Graph) (depths : List (Option ℕ)) (searched : IsSearched records at graph depths) where
  abbrev book : List Node
  book = searched.book

  abbrev s : IsSplitGraphOf records at book graph searched.own searched.held
  s = searched.split

  abbrev here : ℕ → Thing
  here n = thing_at records n

  abbrev count : ℕ
  count = length (numbered records)

  abbrev depth : ℕ → Option ℕ
  depth n = get_or depths n None

  -- of the numbers below a bound that lead to this one, the first
  leading_best : (t bound : ℕ) → IsBest (number_before records) (λ a. not_itself (here a)) (λ a b c. onward (here a) (here b) (here c)) (λ a. leads graph depths a t) (λ a. a < bound) (first_leading records graph depths t bound)
  leading_best t zero = λ x lt. absurd (omega arith)
  leading_best t (suc n) =
      one_more (number_before records) (λ a. not_itself (here a)) (λ a b c. onward (here a) (here b) (here c)) (λ a. leads graph depths a t) (λ a. a < n) (λ a. a < suc n) n
      (λ x lt. omega arith) (omega arith) (λ x lt. below_or_this x n lt) (first_leading records graph depths t n) (leading_best t n) (leads graph depths n t) refl

  -- of the images, containers and leases that hold a thing, the first
  holder_best : (t : Thing) → IsBest goes_before not_itself onward (is_holder records.profile at t) (λ x. Contains (root_things records) x) (holder_of records at t)
  holder_best t =
      same_best goes_before not_itself onward (is_holder records.profile at t) (λ x. ⊥ ⊎ Contains (root_things records) x) (λ x. Contains (root_things records) x)
      (λ x m. elim m [
        | inl nothing ↦ absurd nothing
        | inr c ↦ c
      ]) (λ x c. inr c) (holder_of records at t)
      (best_of goes_before not_itself onward (is_holder records.profile at t) (root_things records) (λ x. ⊥) None (λ x nothing. absurd nothing))

  -- a path to an image, a container or a lease is that root alone
  pub root_path : (root : Thing) (path : List Thing) → Contains (root_things records) root → IsPath records at root path → (length path ≡ 0) × (is_root records.profile at root ≡ true)
  root_path root [] c p = (refl, p.1)
  root_path root (x ∷ path) (k, lt, is) p = absurd (false≢true (sym (no_edge x root (subst HasNone is (without_nodes records k root lt))) ∙ p.1))

  -- a depth is the length of a shortest path
  pub nearest_of : (n d : ℕ) → n < count → depth n ≡ Some d → EndsPath records at d (here n) × ((path : List Thing) → IsPath records at (here n) path → d ≤ length path)
  nearest_of n d lt e =
      let h : IsDepth graph searched.own searched.held n (Some d) = subst (IsDepth graph searched.own searched.held n) e (searched.deep n lt) in
      let end = walk_ends records at book graph searched.own searched.held s n d h.0.0 h.0.1 in (
        end.1 no_thing,
        λ path p. let w = path_walked records at book graph searched.own searched.held s (here n) path p n no_thing lt refl in
            let c : d ≤ w.0 = h.1 w.1 w.0 w.2 in
            let k = w.3 in
            omega arith,
      )

  -- what a path ends in has a depth
  pub depth_of : (n : ℕ) → n < count → (path : List Thing) → IsPath records at (here n) path → (d : ℕ) × (depth n ≡ Some d) × (d ≤ length path)
  depth_of n lt path p = go (depth n) refl
    where
      go : (o : Option ℕ) → depth n ≡ o → (d : ℕ) × (o ≡ Some d) × (d ≤ length path)
      go (Some d) e = (d, refl, (nearest_of n d lt e).1 path p)
      go None e =
          let w = path_walked records at book graph searched.own searched.held s (here n) path p n no_thing lt refl in
          absurd (subst (IsDepth graph searched.own searched.held n) e (searched.deep n lt) w.1 w.0 w.2)

  module _ (before : List (Option ℕ)) (firsts : (n : ℕ) → n < count → get_or before n None ≡ first_leading records graph depths n count) where
    -- ---- what stands before a thing on a shortest path

    abbrev pub Leads : ℕ → ℕ → Thing → Type 0
    Leads n d other = IsTrue (has_edge other (here n)) × EndsPath records at d other

    abbrev IsRoot : ℕ → Thing → Type 0
    IsRoot d other = Contains (root_things records) other × (is_root records.profile at other ≡ true) × (d ≡ 0)

    abbrev IsNumber : ℕ → Thing → Type 0
    IsNumber n other = (j : ℕ) × (j < count) × (here j ≡ other) × (leads graph depths j n ≡ true)

    candidate : (n d : ℕ) → n < count → depth n ≡ Some (suc d) → (other : Thing) → Leads n d other → IsRoot d other ⊎ IsNumber n other
    candidate n d lt e other (edge, (path, p, long)) = elim (split_thing records other (in_store records at other path p)) [
      | inl by_thing ↦ inl (let r = root_path other path by_thing p in (by_thing, r.1, sym long ∙ r.0))
      | inr (j, below, same) ↦ inr (
          let is : here j ≡ other = same_default j below other same in
          let pj : IsPath records at (here j) path = subst (λ (t : Thing). IsPath records at t path) (sym is) p in
          let known = depth_of j below path pj in
          let near = (nearest_of j known.0 below known.1).0 in
          let edge_j : has_edge (here j) (here n) ≡ true = ap (λ (t : Thing). has_edge t (here n)) is ∙ edge in
          let least : suc d ≤ length (here j ∷ near.0) = (nearest_of n (suc d) lt e).1 (here j ∷ near.0) (at_place records s.built book graph s.numbered s.once s.graph_of n no_thing lt, edge_j, near.1) in
          let deep_j : known.0 ≡ d = (let a = known.2 in let b = near.2 in omega (arith, a, b, least, long)) in
          let to : Contains (targets graph j) n = subst (λ (l : List ℕ). Contains l n) (sym (targets_at records s.built book graph s.numbered s.once s.graph_of j no_thing below)) (edge_number records s.built book graph s.numbered s.once s.graph_of (here j) n no_thing lt edge_j) in (
            j,
            below,
            is,
            and_from (list_any (λ b. b == n) (targets graph j)) (is_step (depth j) (depth n)) (any_from (λ b. b == n) (targets graph j) n to (number_itself n))
                (ap (λ (o : Option ℕ). is_step o (depth n)) (known.1 ∙ ap Some deep_j) ∙ ap (is_step (Some d)) e ∙ one_step d),
          ))
    ]
      where
        same_default : (j : ℕ) → j < count → (d : Thing) → get_or (numbered records) j d ≡ d → here j ≡ d
        same_default j below d same = default_free (numbered records) j below no_thing d ∙ same

    -- a number that leads to this one is a thing before it
    leader : (n d j : ℕ) → n < count → j < count → depth n ≡ Some (suc d) → leads graph depths j n ≡ true → IsTrue (has_edge (here j) (here n)) × (depth j ≡ Some d)
    leader n d j lt below e h =
        let both = and_parts (list_any (λ b. b == n) (targets graph j)) (is_step (depth j) (depth n)) h in
        let found = found_by_any (λ b. b == n) (targets graph j) both.0 in
        let to : Contains (targets graph j) n = subst (Contains (targets graph j)) (same_number found.0 n found.2) found.1 in (
          (number_edge records s.built book graph s.numbered s.once s.graph_of (here j) n (subst (λ (l : List ℕ). Contains l n) (targets_at records s.built book graph s.numbered s.once s.graph_of j no_thing below) to)).1 no_thing,
          stepped (depth j) (ap (is_step (depth j)) (sym e) ∙ both.1),
        )
      where
        stepped : (o : Option ℕ) → is_step o (Some (suc d)) ≡ true → o ≡ Some d
        stepped None k = absurd (false≢true k)
        stepped (Some a) k = ap Some (step_is a d k)

    -- the thing before one on some path
    before_on : (n d : ℕ) → n < count → depth n ≡ Some (suc d) → (other : Thing) × Leads n d other
    before_on n d lt e = go (nearest_of n (suc d) lt e).0
      where
        go : EndsPath records at (suc d) (here n) → (other : Thing) × Leads n d other
        go ([], p, l) = absurd (omega (arith, l))
        go (x ∷ path, p, l) = (x, (p.1, (path, p.2, omega (arith, l))))

    -- further than one step from its root, the first number that leads there is the first thing
    first_number : (n d : ℕ) → n < count → depth n ≡ Some (suc (suc d))
        → (b : ℕ) × (get_or before n None ≡ Some b) × (b < count) × (depth b ≡ Some (suc d)) × IsTrue (has_edge (here b) (here n)) × IsFirst (Leads n (suc d)) (here b)
    first_number n d lt e = go (first_leading records graph depths n count) (firsts n lt) (leading_best n count)
      where
        go : (o : Option ℕ) → get_or before n None ≡ o → IsBest (number_before records) (λ a. not_itself (here a)) (λ a b c. onward (here a) (here b) (here c)) (λ a. leads graph depths a n) (λ a. a < count) o
            → (b : ℕ) × (get_or before n None ≡ Some b) × (b < count) × (depth b ≡ Some (suc d)) × IsTrue (has_edge (here b) (here n)) × IsFirst (Leads n (suc d)) (here b)
        go None is best = absurd (elim (candidate n (suc d) lt e (before_on n (suc d) lt e).0 (before_on n (suc d) lt e).1) [
          | inl root ↦ (let z = root.2 in omega arith)
          | inr number ↦ both_ways (leads graph depths number.0 n) (best number.0 number.1) number.3
        ])
        go (Some b) is best =
            let l = leader n (suc d) b lt best.0 e best.1 in (
              b,
              is,
              best.0,
              l.1,
              l.0,
              λ other k t. elim (candidate n (suc d) lt e other k) [
                | inl root ↦ (let z = root.2 in omega arith)
                | inr number ↦ both_ways (goes_before other (here b)) (ap (λ x. goes_before x (here b)) (sym number.2) ∙ best.2 number.0 number.1 number.3) t
              ],
            )

    -- a thing one step from its root has the first root before it
    first_root : (n : ℕ) → n < count → depth n ≡ Some 1
        → (root : Thing) × (root_before records at before n ≡ Some root) × IsPath records at root [] × IsTrue (has_edge root (here n)) × IsFirst (Leads n 0) root
    first_root n lt e = go (holder_of records at (here n)) refl (holder_best (here n))
      where
        is_behind : (root : Thing) → Contains (root_things records) root → (j : ℕ) → j < count → goes_before (here j) root ≡ false
        is_behind root (k, below, is) j lt = behind_roots (here j) root (with_nodes records j no_thing lt) (subst HasNone is (without_nodes records k root below))

        go : (o : Option Thing) → holder_of records at (here n) ≡ o → IsBest goes_before not_itself onward (is_holder records.profile at (here n)) (λ x. Contains (root_things records) x) o
            → (root : Thing) × (or_else o (option_map (thing_at records) (get_or before n None)) ≡ Some root) × IsPath records at root [] × IsTrue (has_edge root (here n)) × IsFirst (Leads n 0) root
        go (Some root) is best =
            let both = and_parts (is_root records.profile at root) (is_some _) best.1 in (
              root,
              refl,
              (is_root_thing records root best.0, both.0),
              sym (reason_edge root (here n)) ∙ both.1,
              λ other k t. elim (candidate n 0 lt e other k) [
                | inl r ↦ both_ways (goes_before other root) (best.2 other r.0 (and_from (is_root records.profile at other) (is_some _) r.1 (reason_edge other (here n) ∙ k.0))) t
                | inr number ↦ both_ways (goes_before other root) (ap (λ x. goes_before x root) (sym number.2) ∙ is_behind root best.0 number.0 number.1) t
              ],
            )
        go None is none = by_number (first_leading records graph depths n count) (firsts n lt) (leading_best n count)
          where
            no_root : (other : Thing) → Leads n 0 other → IsRoot 0 other → ⊥
            no_root other k r = both_ways (is_holder records.profile at (here n) other) (none other r.0) (and_from (is_root records.profile at other) (is_some _) r.1 (reason_edge other (here n) ∙ k.0))

            by_number : (o : Option ℕ) → get_or before n None ≡ o → IsBest (number_before records) (λ a. not_itself (here a)) (λ a b c. onward (here a) (here b) (here c)) (λ a. leads graph depths a n) (λ a. a < count) o
                → (root : Thing) × (option_map (thing_at records) (get_or before n None) ≡ Some root) × IsPath records at root [] × IsTrue (has_edge root (here n)) × IsFirst (Leads n 0) root
            by_number None is best = absurd (elim (candidate n 0 lt e (before_on n 0 lt e).0 (before_on n 0 lt e).1) [
              | inl root ↦ no_root (before_on n 0 lt e).0 (before_on n 0 lt e).1 root
              | inr number ↦ both_ways (leads graph depths number.0 n) (best number.0 number.1) number.3
            ])
            by_number (Some b) is best =
                let l = leader n 0 b lt best.0 e best.1 in (
                  here b,
                  ap (option_map (thing_at records)) is,
                  alone (nearest_of b 0 best.0 l.1).0,
                  l.0,
                  λ other k t. elim (candidate n 0 lt e other k) [
                    | inl root ↦ no_root other k root
                    | inr number ↦ both_ways (goes_before other (here b)) (ap (λ x. goes_before x (here b)) (sym number.2) ∙ best.2 number.0 number.1 number.3) t
                  ],
                )
              where
                alone : EndsPath records at 0 (here b) → IsPath records at (here b) []
                alone ([], p, l) = p
                alone (x ∷ path, p, l) = absurd (omega (arith, l))

    -- ---- the path back

    -- the things before a number: the numbers back, and the root before the last of them
    abbrev pub things_back : ℕ → ℕ → List Thing
    things_back d n = map here (chain before d n) ++ listed (root_before records at before (end_of n (chain before d n)))

    pub first_path : (d n : ℕ) → n < count → depth n ≡ Some (suc d) → IsPath records at (here n) (things_back d n) × (length (things_back d n) ≡ suc d) × IsFirstBack records at (here n) (things_back d n)
    first_path zero n lt e =
        let r = first_root n lt e in
        let in_here = at_place records s.built book graph s.numbered s.once s.graph_of n no_thing lt in
        subst (λ (o : Option Thing). IsPath records at (here n) (listed o) × (length (listed o) ≡ 1) × IsFirstBack records at (here n) (listed o)) (sym r.1)
        ((in_here, r.3, r.2), refl, (r.4, tt))
    first_path (suc d) n lt e =
        let f = first_number n d lt e in
        let b : ℕ = f.0 in
        let rest = first_path d b f.2 f.3 in
        let in_here = at_place records s.built book graph s.numbered s.once s.graph_of n no_thing lt in
        let is : chain before (suc d) n ≡ b ∷ chain before d b = ap (λ (o : Option ℕ). option_map_or (λ k. k ∷ chain before d k) o []) f.1 in
        subst (λ (l : List ℕ). let p = map here l ++ listed (root_before records at before (end_of n l)) in IsPath records at (here n) p × (length p ≡ suc (suc d)) × IsFirstBack records at (here n) p) (sym is)
        ((in_here, f.4, rest.0), ap suc rest.1, (subst (λ k. IsFirst (Leads n k) (here b)) (sym rest.1) f.5, rest.2))

    -- a root of its own is a path alone
    pub first_alone : (n : ℕ) → n < count → depth n ≡ Some 0 → IsFirstTo records at (here n) (here n ∷ [])
    first_alone n lt e = (refl, alone (nearest_of n 0 lt e).0, (λ other p. omega arith), tt)
      where
        alone : EndsPath records at 0 (here n) → IsPath records at (here n) []
        alone ([], p, l) = p
        alone (x ∷ path, p, l) = absurd (omega (arith, l))

    -- so are the things back from any other number
    pub first_to : (n d : ℕ) → n < count → depth n ≡ Some (suc d) → IsFirstTo records at (here n) (here n ∷ things_back d n)
    first_to n d lt e =
        let f = first_path d n lt e in (
          refl,
          f.0,
          (λ other p. let least : suc d ≤ length other = (nearest_of n (suc d) lt e).1 other p in let long : length (things_back d n) ≡ suc d = f.1 in omega (arith, least, long)),
          f.2,
        )
