-- Walks back from a node to its start, and what they undercut.
use Rattle.std.proofs.Common.{◌≡◌, ℕ, ◌+◌, ◌<◌, ◌≤◌, ◌≢◌, List, [], ◌∷◌, length, get_or, ap, ◌∙◌, subst, arith}
use Rattle.std.specs.Prelude.{All}
use Rattle.std.specs.List.{AllWithin}
use Rattle.std.proofs.Math.Decide.{dec_le}
use mathlib.Core.Logic.{dite}
use Rattle.std.proofs.lemmas.List.Elements.{All-contains}
use Rattle.meta_types.specs.Walks.{end_of}
use Rattle.mark_core.specs.declared.graph.Graph.{Graph}
use Rattle.mark_core.specs.Seeing.{Seen}
use Rattle.mark_core.specs.Nearest.{IsWalkTo}
use Rattle.mark_core.specs.Forests.{Stands, IsForest}
use Rattle.mark_core.proofs.Seeings.{get_or_any}

-- ---- what no walk undercuts

module _ (g : Graph) (own held : List ℕ) (seen : List Seen) (f : IsForest g own held seen) (node : ℕ) where
  pub stands_if_walked : (walk : List ℕ) (cost : ℕ) → IsWalkTo g own held node cost walk → Stands seen node cost
  stands_if_walked [] cost w = absurd w
  stands_if_walked (start ∷ walk) cost (first, is, leads, ends, price) =
      let s : Stands seen (end_of start walk) (first + length walk) = f.nearest start first walk is leads in
      (s.0, s.1, s.2 ∙ ends, (let h = s.3 in omega arith))

  -- a node that wasn't seen has no walk
  pub nowhere : All (λ s. s.node ≢ node) seen → (walk : List ℕ) (cost : ℕ) → IsWalkTo g own held node cost walk → ⊥
  nowhere none walk cost w = let s = stands_if_walked walk cost w in All-contains (λ s. s.node ≢ node) seen s.0 none s.1 s.2

  -- the first place of a node is the nearest
  pub nearest_place : (place : ℕ) (d : Seen) → place < length seen → AllWithin (λ s. s.node ≢ node) seen 0 place → (walk : List ℕ) (cost : ℕ) → IsWalkTo g own held node cost walk → (get_or seen place d).depth ≤ cost
  nearest_place place d inside none walk cost w =
      let s = stands_if_walked walk cost w in
      let k : ℕ = s.1.0 in
      let at : get_or seen k s.0 ≡ s.0 = s.1.2 in
      let deep : (get_or seen k s.0).depth ≡ s.0.depth = ap (λ (x : Seen). x.depth) at in
      dite (dec_le place k)
      (λ (after : place ≤ k).
      let same : (get_or seen place s.0).depth ≡ (get_or seen place d).depth = ap (λ (x : Seen). x.depth) (get_or_any seen place s.0 d inside) in
      let r : (get_or seen place s.0).depth ≤ (get_or seen k s.0).depth = rises place k s.0 after s.1.1 in
      let q = s.3 in
      omega arith)
      (λ (before : place ≤ k → ⊥). absurd (none k s.0 (omega arith) (omega arith) (ap (λ (x : Seen). x.node) at ∙ s.2)))
    where
      rises : (i j : ℕ) (d : Seen) → i ≤ j → j < length seen → (get_or seen i d).depth ≤ (get_or seen j d).depth
      rises i j d le inside =
          dite (dec_le j i)
          (λ (back : j ≤ i). let e : i ≡ j = omega arith in subst (λ k. (get_or seen i d).depth ≤ (get_or seen k d).depth) e (omega arith))
          (λ (no : j ≤ i → ⊥). f.rising i j d (omega arith) inside)

-- ---- roots of the graph cost nothing
