-- What is closed under the targets and has the roots has all that is reached.
use Rattle.std.proofs.Common.{◌≡◌, ⊎_elim, ℕ, ◌<◌, ◌≤◌, ◌++◌, Some, None, slice_get, List, [], ◌∷◌, length, get_or, arith, refl, sym, ap, ◌∙◌, subst}
use Rattle.std.specs.Prelude.{All, Contains}
use Rattle.std.proofs.lemmas.List.{get_or_past}
use Rattle.std.proofs.lemmas.List.Elements.{All-contains, Contains-get_or}
use Rattle.std.proofs.lemmas.Option.{slice_get_cases, get_or_from_slice_get}
use Rattle.std.proofs.Math.Decide.{dec_le}
use mathlib.Core.Logic.{dite}
use Rattle.mark_core.specs.declared.graph.Graph.{Graph}
use Rattle.meta_types.specs.Walks.{IsWalk, end_of}
use Rattle.mark_core.specs.Reach.{targets, node_count, IsInRange, Reached, rows}

-- a fact that each edge carries from its node to its target
module _ (g : Graph) (S : ℕ → Type 0)
    (closed : (a b : ℕ) → S a → Contains (targets g a) b → S b) where
  -- by each step of a walk
  along : (a : ℕ) (walk : List ℕ) → S a → IsWalk (rows g) a walk → S (end_of a walk)
  along a [] here w = here
  along a (b ∷ walk) here w = along b walk (closed a b here w.0) w.1

  -- what holds of the roots, and is carried along the edges, holds of all that is reached
  pub reached_in : ((r : ℕ) → Contains g.roots.items r → S r) → (n : ℕ) → Reached g n → S n
  reached_in has n r = subst S r.4 (along r.0 r.1 (has r.0 r.2) r.3)

-- a root is reached by the walk of no step
pub Reached-root : (g : Graph) (r : ℕ) → Contains g.roots.items r → Reached g r
Reached-root g r here = (r, [], here, tt, refl)

-- a walk goes on along an edge of its end
IsWalk-push : (g : Graph) (a : ℕ) (walk : List ℕ) (b : ℕ) → IsWalk (rows g) a walk
    → Contains (targets g (end_of a walk)) b → IsWalk (rows g) a (walk ++ b ∷ [])
IsWalk-push g a [] b w c = (c, tt)
IsWalk-push g a (x ∷ walk) b w c = (w.0, IsWalk-push g x walk b w.1 c)

-- and ends there
end_of-push : (a : ℕ) (walk : List ℕ) (b : ℕ) → end_of a (walk ++ b ∷ []) ≡ b
end_of-push a [] b = refl
end_of-push a (x ∷ walk) b = end_of-push x walk b

-- a target of a reached node is reached, by the walk that is one step longer
pub Reached-target : (g : Graph) (a b : ℕ) → Reached g a → Contains (targets g a) b → Reached g b
Reached-target g a b r c =
    let edge : Contains (targets g (end_of r.0 r.1)) b =
    subst (λ e. Contains (targets g e) b) (sym r.4) c in
    (r.0, r.1 ++ b ∷ [], r.2, IsWalk-push g r.0 r.1 b r.3 edge, end_of-push r.0 r.1 b)

-- a target of a node is a node, in a graph in range
pub target_in_range : (g : Graph) (a b : ℕ) → IsInRange g → a < node_count g
    → Contains (targets g a) b → b < node_count g
target_in_range g a b range inside c =
    All-contains (λ b. b < node_count g) (targets g a) b (range.0 a [] inside) c

-- so all that is reached is a node
pub reached_in_range : (g : Graph) (n : ℕ) → IsInRange g → Reached g n → n < node_count g
reached_in_range g n range =
    reached_in g (λ a. a < node_count g) (λ a b inside. target_in_range g a b range inside)
    (λ r c. All-contains (λ r. r < node_count g) g.roots.items r range.1 c) n

-- what is got stands within
pub within_get : {X : Type 0} (xs : List X) (k : ℕ) (x : X) → slice_get xs k ≡ Some x
    → k < length xs
within_get {X = X} xs k x is =
    ⊎_elim
    (λ (h : (x : X) × (k < length xs) × (slice_get xs k ≡ Some x) × (get_or xs k x ≡ x)). h.1)
    (λ (h : (length xs ≤ k) × (slice_get xs k ≡ None)). let p : Some x ≡ None = sym is ∙ h.1 in cc)
    (slice_get_cases xs k).1

-- there is a row for each node
pub length-rows : (g : Graph) → length (rows g) ≡ node_count g
length-rows g = refl

-- a number that is no node has no target
targets_none : (g : Graph) (a : ℕ) → node_count g ≤ a → length (targets g a) ≡ 0
targets_none g a outside =
    let l = length-rows g in
    ap length (get_or_past (rows g) a [] (omega arith))

-- the targets of any number are nodes
pub targets_in_range : (g : Graph) (a : ℕ) → IsInRange g → All (λ b. b < node_count g) (targets g a)
targets_in_range g a range =
    let l = length-rows g in
    dite (dec_le (node_count g) a)
    (λ (outside : node_count g ≤ a) k d h. absurd (let z = targets_none g a outside in omega arith))
    (λ (not : node_count g ≤ a → ⊥). range.0 a [] (omega arith))

-- an edge leads to a node
pub edge_in_range : (g : Graph) (a k b : ℕ) → IsInRange g → Some b ≡ slice_get (targets g a) k
    → b < node_count g
edge_in_range g a k b range is =
    let e : get_or (targets g a) k 0 ≡ b = get_or_from_slice_get (targets g a) k b 0 (sym is) in
    let inside : k < length (targets g a) = within_get (targets g a) k b (sym is) in
    dite (dec_le (node_count g) a)
    (λ (outside : node_count g ≤ a). absurd (let z = targets_none g a outside in omega arith))
    (λ (not : node_count g ≤ a → ⊥).
    let here : a < node_count g = omega arith in
    subst (λ t. t < node_count g) e
    (target_in_range g a (get_or (targets g a) k 0) range here
    (Contains-get_or (targets g a) k 0 inside)))
