-- The closing argument, over plain lists.
use Rattle.std.proofs.Common.{◌≡◌, ◌≢◌, ℕ, ◌<◌, ◌≤◌, List, [], ◌∷◌, length, get_or, arith}
use Rattle.std.specs.Prelude.{All}
use Rattle.std.proofs.lemmas.List.Sums.{sum_by-cons}
use Rattle.std.proofs.lemmas.List.Elements.{All-contains, All-head, All-tail, Contains-get_or}
use native.Mathlib.Decide.{ℕ_discrete}
use mathlib.Core.Logic.{dite}
use Rattle.mark_core.specs.declared.graph.Graph.{Graph}
use Rattle.mark_core.specs.Bits.{times}
use Rattle.mark_core.specs.Reach.{targets, node_count, Reached, IsInRange}
use Rattle.mark_core.proofs.Counts.{contained, counted, length_distinct}
use Rattle.mark_core.proofs.Walks.{reached_in, reached_in_range}
use Rattle.steal_mark.specs.declared.shared.claims.Claims.{Claims}
use Rattle.steal_mark.specs.Working.{Saw}
use Rattle.steal_mark.specs.Listing.{listed, HoldsEachOnce}
use Rattle.steal_mark.specs.Claiming.{Knows}

-- what is listed stands in one of the lists, of which each has the property
saw_of : (g : Graph) (seen : List ℕ) (lists : List (List ℕ)) (n : ℕ) → All (Saw g seen) lists → 0 < listed n lists → All (λ t. 0 < times t seen) (targets g n)
saw_of g seen [] n all h = absurd (omega arith)
saw_of g seen (l ∷ lists) n all h =
    dite (ℕ_discrete (times n l) 0)
    (λ (e : times n l ≡ 0). saw_of g seen lists n (All-tail (Saw g seen) l lists all) (let a = sum_by-cons (times n) l lists in omega arith))
    (λ (ne : times n l ≢ 0). All-contains (λ m. All (λ t. 0 < times t seen) (targets g m)) l n (All-head (Saw g seen) l lists all) (contained n l (omega arith)))

-- One seat knows all claims, each root was seen, each target of what is listed was seen, and what
-- is listed is what was claimed
module _ (g : Graph) (v : Claims) (lists : List (List ℕ)) (k : Knows g v) (roots : All (λ r. 0 < times r v.seen) g.roots.items) (saw : All (Saw g v.seen) lists)
    (same : (n : ℕ) → listed n lists ≡ times n v.claimed) where
  -- what was seen was claimed, and so is listed
  seen_claimed : (n : ℕ) → 0 < times n v.seen → 0 < listed n lists
  seen_claimed n h = let a : 0 < times n v.claimed = All-contains (λ m. 0 < times m v.claimed) v.seen n k.seen (contained n v.seen h) in let b = same n in omega arith

  -- the listed nodes have the roots and the targets of listed nodes, so
  -- they have all that is reached
  pub all_listed : (n : ℕ) → Reached g n → 0 < listed n lists
  all_listed n r = reached_in g (λ m. 0 < listed m lists)
      (λ a b here c. seen_claimed b (All-contains (λ t. 0 < times t v.seen) (targets g a) b (saw_of g v.seen lists a saw here) c))
      (λ r c. seen_claimed r (All-contains (λ m. 0 < times m v.seen) g.roots.items r roots c)) n r

  -- what is listed was claimed, and so is reached
  pub only_reached : (n : ℕ) → 0 < listed n lists → Reached g n
  only_reached n h = All-contains (Reached g) v.claimed n k.reached (contained n v.claimed (let a = same n in omega arith))

  -- what is listed was claimed once
  pub each_once : HoldsEachOnce g lists
  each_once n = ((λ r. let a = all_listed n r in let b = same n in let c = k.once n in omega arith), only_reached n)

-- a list of which no more was taken than was claimed is no longer than the graph has nodes
pub short : (g : Graph) (v : Claims) (xs : List ℕ) → Knows g v → IsInRange g → ((n : ℕ) → times n xs ≤ times n v.claimed) → length xs ≤ node_count g
short g v xs k range less =
    length_distinct (node_count g) xs
    (λ i d h. let x : ℕ = get_or xs i d in
    let a : 0 < times x xs = counted x xs (Contains-get_or xs i d h) in
    let b = less x in
    reached_in_range g x range (All-contains (Reached g) v.claimed x k.reached (contained x v.claimed (omega arith))))
    (λ n. let a = less n in let b = k.once n in omega arith)
