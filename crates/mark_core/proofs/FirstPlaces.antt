-- The first place of a node among those that a search has seen, and its depth.
use Rattle.std.proofs.Common.{◌≡◌, ℕ, zero, suc, ◌<◌, ◌≢◌, List, [], ◌∷◌, ◌++◌, Bool, true, false, Some, None, Option, length, get_or, refl, sym, subst, arith}
use Rattle.std.specs.Prelude.{All, Contains, ◌==◌, if◌then◌else◌}
use Rattle.std.specs.List.{AllWithin}
use Rattle.std.proofs.lemmas.List.{length-append}
use Rattle.std.proofs.lemmas.List.Elements.{All-cons, All-nil, All-get_or}
use Rattle.std.proofs.lemmas.Bool.Decides.{nat_tests}
use Rattle.mark_core.specs.declared.graph.Graph.{Graph}
use Rattle.mark_core.specs.Reach.{rows, targets}
use Rattle.mark_core.specs.Seeing.{Seen}
use Rattle.mark_core.specs.Depths.{depth_in}
use Rattle.mark_core.specs.Nearest.{IsWalkTo, IsDepth}
use Rattle.mark_core.specs.Forests.{ComesFrom, Comes, IsForest}
use Rattle.mark_core.proofs.WalksBack.{nowhere, nearest_place}
use Rattle.mark_core.proofs.WalkEnds.{walk_push, end_push}

-- what is read past the end of a list
abbrev pub no_seen : Seen
no_seen = record { node = 0; before = None; depth = 0 }

-- ---- the first place of a node

-- none is of the node, or the first that is has this depth
abbrev pub IsFirst : List Seen → ℕ → Option ℕ → Type 0
IsFirst seen n None = All (λ s. s.node ≢ n) seen
IsFirst seen n (Some d) = (place : ℕ) × (place < length seen)
    × ((get_or seen place no_seen).node ≡ n) × ((get_or seen place no_seen).depth ≡ d)
    × AllWithin (λ s. s.node ≢ n) seen 0 place

module _ (s : Seen) (seen : List Seen) (n : ℕ) where
  -- those behind another node
  behind : (place : ℕ) → s.node ≢ n → AllWithin (λ x. x.node ≢ n) seen 0 place
      → AllWithin (λ x. x.node ≢ n) (s ∷ seen) 0 (suc place)
  behind place other none zero d from to = other
  behind place other none (suc k) d from to = none k d (omega arith) (omega arith)

  -- one more before the others
  first_more : (same : Bool) → same ≡ (s.node == n) → (rest : Option ℕ) → IsFirst seen n rest
      → IsFirst (s ∷ seen) n (if same then Some s.depth else rest)
  first_more true e rest f = (0, omega arith, here, refl, λ k d from to. absurd (omega arith))
    where
      here : s.node ≡ n
      here = grind (arith, nat_tests)
  first_more false e None f = All-cons (λ x. x.node ≢ n) s seen other f
    where
      other : s.node ≢ n
      other = λ h. grind (arith, nat_tests)
  first_more false e (Some d) (place, inside, is, deep, none) =
      (suc place, omega arith, is, deep, behind place other none)
    where
      other : s.node ≢ n
      other = λ h. grind (arith, nat_tests)

pub first_in : (seen : List Seen) (n : ℕ) → IsFirst seen n (depth_in seen n)
first_in [] n = All-nil (λ s. s.node ≢ n)
first_in (s ∷ seen) n = first_more s seen n (s.node == n) refl (depth_in seen n) (first_in seen n)

-- ---- its depth is that of a walk

module _ (g : Graph) (own held : List ℕ) (seen : List Seen) (f : IsForest g own held seen) where
  -- a walk that goes on by a step costs 1 more
  walk_more : (a b cost : ℕ) (walk : List ℕ) → IsWalkTo g own held a cost walk → Contains (targets g a) b → (longer : List ℕ) × IsWalkTo g own held b (suc cost) longer
  walk_more a b cost [] w edge = absurd w
  walk_more a b cost (start ∷ walk) (first, is, leads, ends, price) edge =
      let l = length-append walk (b ∷ []) in
      (start ∷ walk ++ b ∷ [], (first, is, walk_push (rows g) start walk b leads (subst (λ x. Contains (targets g x) b) (sym ends) edge), end_push start walk b, omega arith))

  walk_from : (depth node : ℕ) (before : Option ℕ) → ComesFrom g own held seen node depth before → (walk : List ℕ) × IsWalkTo g own held node depth walk
  walk_from depth node None c = (node ∷ [], (depth, c, tt, refl, omega arith))
  walk_from zero node (Some p) c = absurd (let h = c.3 in omega arith)
  walk_from (suc depth) node (Some p) c =
      let b : Seen = c.0 in
      let from : Comes g own held seen b = subst (Comes g own held seen) c.2 (All-get_or (Comes g own held seen) seen p b c.1 f.comes) in
      let deep : b.depth ≡ depth = (let h = c.3 in omega arith) in
      let w : (walk : List ℕ) × IsWalkTo g own held b.node depth walk = walk_from depth b.node b.before (subst (λ d. ComesFrom g own held seen b.node d b.before) deep from) in
      walk_more b.node node depth w.0 w.1 c.4

  depth_of_first : (n : ℕ) (depth : Option ℕ) → IsFirst seen n depth → IsDepth g own held n depth
  depth_of_first n None none = nowhere g own held seen f n none
  depth_of_first n (Some depth) (place, inside, is, deep, none) =
      let this : Seen = get_or seen place no_seen in
      let from : Comes g own held seen this = All-get_or (Comes g own held seen) seen place no_seen inside f.comes in
      let w = walk_from this.depth this.node this.before from in (
        (w.0, subst (λ d. IsWalkTo g own held n d w.0) deep (subst (λ x. IsWalkTo g own held x this.depth w.0) is w.1)),
        λ walk cost v. let h = nearest_place g own held seen f n place no_seen inside none walk cost v in omega arith,
      )

  -- the depths of all that was seen
  pub depth_of_all : (n : ℕ) → IsDepth g own held n (depth_in seen n)
  depth_of_all n = depth_of_first n (depth_in seen n) (first_in seen n)
