-- A list of reached nodes, of which those before a place have been scanned.
use Rattle.std.proofs.Common.{◌≡◌, ℕ, ◌+◌, ◌<◌, ◌≤◌, ◌↔◌, List, [], length, get_or, sym, ◌∙◌, subst, below_more, arith}
use Rattle.std.specs.Prelude.{All, Contains}
use Rattle.std.proofs.lemmas.Grind.{get_or_default_zero}
use Rattle.std.proofs.lemmas.List.Elements.{All-weaker, All-contains, All-nil, All-get_or, All-contains_itself}
use Rattle.mark_core.specs.declared.graph.Graph.{Graph}
use Rattle.mark_core.specs.Bits.{bit_of, times}
use Rattle.mark_core.specs.Claims.{claim_all}
use Rattle.mark_core.specs.Reach.{targets, node_count, IsInRange, Reached}
use Rattle.mark_core.proofs.BitLemmas.{bit_of-lt}
use Rattle.mark_core.proofs.Counts.{contained, length_distinct}
use Rattle.mark_core.proofs.ClaimLemmas.{Claimed, Claimed-more, claim_all-all_of, claim_all-keeps, claim_all-there, length-claim_all, get_or-claim_all}
use Rattle.mark_core.proofs.Walks.{Reached-root, Reached-target, reached_in, reached_in_range}

-- all in the list is reached; the roots are in it, and the targets of each node before the place
pub record Explores (g : Graph) (order : List ℕ) (next : ℕ) : Type 0 where
  pub reached : All (Reached g) order
  pub roots : Claimed order g.roots.items
  pub done : (k : ℕ) → k < next → Claimed order (targets g (get_or order k 0))
  pub within : next ≤ length order

-- a root is reached by the walk of no step
pub roots_reached : (g : Graph) → All (Reached g) g.roots.items
roots_reached g =
    All-weaker (Contains g.roots.items) (Reached g) (λ r c. Reached-root g r c) g.roots.items
    (All-contains_itself g.roots.items)

-- the targets of a reached node are reached
targets_reached : (g : Graph) (a : ℕ) → Reached g a → All (Reached g) (targets g a)
targets_reached g a r =
    All-weaker (Contains (targets g a)) (Reached g) (λ b c. Reached-target g a b r c) (targets g a)
    (All-contains_itself (targets g a))

-- the roots are claimed, and nothing is scanned
pub begins : (g : Graph) (order : List ℕ) → order ≡ claim_all [] g.roots.items → Explores g order 0
begins g order is = record {
  reached = subst (All (Reached g)) (sym is)
      (claim_all-all_of (Reached g) [] g.roots.items (All-nil (Reached g)) (roots_reached g));
  roots = subst (λ l. Claimed l g.roots.items) (sym is) (claim_all-there [] g.roots.items);
  done = λ k h. absurd (omega arith);
  within = omega arith;
}

-- the node at the place is scanned: its targets are claimed
module _ (g : Graph) (order : List ℕ) (next : ℕ) (inside : next < length order)
    (e : Explores g order next) where
  -- the list with the targets of the node
  abbrev new : List ℕ
  new = claim_all order (targets g (get_or order next 0))

  -- the node is of the list, so it is reached
  node_reached : Reached g (get_or order next 0)
  node_reached = All-get_or (Reached g) order next 0 inside e.reached

  -- what was claimed stays so
  stays : (ns : List ℕ) → Claimed order ns → Claimed new ns
  stays ns h =
      Claimed-more order new ns (λ n. claim_all-keeps n order (targets g (get_or order next 0))) h

  -- the places of the list do not change
  same_node : (k : ℕ) → k < length order → get_or order k 0 ≡ get_or new k 0
  same_node k h = sym (get_or-claim_all order (targets g (get_or order next 0)) k h)

  -- the nodes before the place are those of before, whose targets stay claimed
  done_before : (k : ℕ) → k < next → Claimed new (targets g (get_or new k 0))
  done_before k h =
      let within : k < length order = omega arith in
      subst (λ n. Claimed new (targets g n)) (same_node k within)
      (stays (targets g (get_or order k 0)) (e.done k h))

  -- the targets of the node at the place have just been claimed
  done_here : Claimed new (targets g (get_or new next 0))
  done_here =
      subst (λ n. Claimed new (targets g n)) (same_node next inside)
      (claim_all-there order (targets g (get_or order next 0)))

  -- so the list has been gone through one place farther
  pub goes : Explores g new (next + 1)
  goes =
      record {
        reached = claim_all-all_of (Reached g) order (targets g (get_or order next 0)) e.reached
            (targets_reached g (get_or order next 0) node_reached);
        roots = stays g.roots.items e.roots;
        done = below_more _ _ done_before done_here;
        within = let l = length-claim_all order (targets g (get_or order next 0)) in omega arith;
      }

-- where bits say the same as the list
module _ (g : Graph) (words order : List ℕ) (next : ℕ)
    (same : (n : ℕ) → bit_of words n ≡ times n order) (e : Explores g order next) where
  -- a bit is at most 1, so no number stands twice
  once : (n : ℕ) → times n order ≤ 1
  once n = let a = same n in let b = bit_of-lt words n in omega arith

  -- no more nodes are found than there are
  pub bounded : IsInRange g → length order ≤ node_count g
  bounded range =
      length_distinct (node_count g) order
      (All-weaker (Reached g) (λ x. x < node_count g) (λ n r. reached_in_range g n range r) order
      e.reached)
      once

  module _ (all : length order ≤ next) where
    -- with all nodes scanned, a target of a node of the list is in the list
    closed : (a b : ℕ) → 0 < times a order → Contains (targets g a) b → 0 < times b order
    closed a b here c =
        let at = contained a order here in
        let node : get_or order at.0 0 ≡ a = sym (get_or_default_zero order at.0 a at.1) ∙ at.2 in
        let scanned : Claimed order (targets g a) =
        subst (λ x. Claimed order (targets g x)) node (e.done at.0 (let w = at.1 in omega arith)) in
        All-contains (λ t. 0 < times t order) (targets g a) b scanned c

    all_found : (n : ℕ) → Reached g n → 0 < times n order
    all_found =
        reached_in g (λ x. 0 < times x order) closed
        (λ r c. All-contains (λ x. 0 < times x order) g.roots.items r e.roots c)

    pub ends : (n : ℕ) → (bit_of words n ≡ 1) ↔ Reached g n
    ends n =
        let s = same n in (
          λ h. let t : 0 < times n order = omega arith in
              All-contains (Reached g) order n e.reached (contained n order t),
          λ r. let t = all_found n r in let o = once n in omega arith,
        )
