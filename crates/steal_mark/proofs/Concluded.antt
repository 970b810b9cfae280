-- No deque is open.
use Rattle.std.proofs.Common.{◌≡◌, ◌↔◌, ℕ, suc, ◌<◌, List, [], ◌∷◌, length, get_or, refl, ap, arith}
use Rattle.std.specs.Prelude.{sum_by}
use Rattle.std.proofs.lemmas.List.{length-map, get_or-map}
use Rattle.std.proofs.lemmas.List.Sums.{sum_by-cons, get_or-le-sum_by}
use Rattle.mark_core.specs.declared.graph.Graph.{Graph}
use Rattle.mark_core.specs.Bits.{times, bit_of}
use Rattle.mark_core.specs.Reach.{Reached, IsInRange, node_count}
use Rattle.mark_core.proofs.Walks.{reached_in_range}
use Rattle.steal_mark.specs.declared.turn.thief_pass.ThiefPass.{ThiefPass}
use Rattle.steal_mark.specs.declared.shared.deques.PassView.{PassView}
use Rattle.steal_mark.specs.declared.shared.claims.Claims.{Claims}
use Rattle.steal_mark.specs.Claiming.{Knows}
use Rattle.steal_mark.specs.Stealing.{pass_views}
use Rattle.steal_mark.specs.Closing.{IsRow, taken_in, listing, Balanced}
use Rattle.steal_mark.specs.Listing.{listed, HoldsEachOnce}
use Rattle.steal_mark.proofs.Closing.{each_once, all_listed, only_reached}
use Rattle.steal_mark.specs.Parts.{NodeList, PassRow}

-- an empty row took nothing
empty_row : (n : ℕ) (row : List ThiefPass) → length row ≡ 0 → sum_by (λ (h : PassView). times n h.taken) (pass_views row) ≡ 0
empty_row n [] e = refl
empty_row n (o ∷ row) e = absurd (omega arith)

-- with no deque open no pass is left
none_taken : (g : Graph) (n : ℕ) (rows : List PassRow) → ((k : ℕ) (d : PassRow) → k < length rows → length (get_or rows k d).items ≡ 0) → taken_in n rows ≡ 0
none_taken g n [] all = refl
none_taken g n (row ∷ rows) all =
    let a = sum_by-cons (λ (x : PassRow). sum_by (λ (h : PassView). times n h.taken) (pass_views x.items)) row rows in
    let b = empty_row n row.items (all 0 row (omega arith)) in
    let c = none_taken g n rows (λ k d h. all (suc k) d (omega arith)) in
    omega arith

-- a row on no deques is empty
empty_order : (g : Graph) (number : ℕ) (row : PassRow) → IsRow g [] number row → length row.items ≡ 0
empty_order g number row r = let a = ap length r.order in let b = length-map row.items (λ (o : ThiefPass). Rattle.crossbeam_deque.specs.Handles.stealer_deque o.stealer) in omega arith

module _ (g : Graph) (rows : List PassRow) (lists : List NodeList) (v : Claims) (b : Balanced g [] rows lists v) (k : Knows g v) where
  -- with no deque open, what is listed is what was claimed
  same : (n : ℕ) → listed n (listing lists) ≡ times n v.claimed
  same n = let a = b.counts n in let c = none_taken g n rows (λ k d h. empty_order g k (get_or rows k d) (b.passes k d h)) in omega arith

  -- the lists hold each reached node once
  pub holds : HoldsEachOnce g (listing lists)
  holds = each_once g v (listing lists) k b.roots b.saw same

  -- what is listed is a node
  pub in_range : IsInRange g → (n : ℕ) → 0 < listed n (listing lists) → n < node_count g
  in_range range n h = reached_in_range g n range (only_reached g v (listing lists) k b.roots b.saw same n h)

  -- the marks of what is listed are the reached nodes
  pub marked : (words : List ℕ) → ((n : ℕ) → (bit_of words n ≡ 1) ↔ (0 < listed n (listing lists))) → (n : ℕ) → (bit_of words n ≡ 1) ↔ Reached g n
  marked words m n = ((λ e. only_reached g v (listing lists) k b.roots b.saw same n ((m n).0 e)), (λ r. (m n).1 (all_listed g v (listing lists) k b.roots b.saw same n r)))

-- what stands in one list is listed
pub listed_one : (n : ℕ) (lists : List NodeList) (i : ℕ) (list : NodeList) → i < length lists → 0 < times n (get_or lists i list).items → 0 < listed n (listing lists)
listed_one n lists i list inside h =
    let a = get_or-le-sum_by (times n) (listing lists) i [] (let e = length-map lists (λ (l : NodeList). l.items) in omega arith) in
    let e : times n (get_or (listing lists) i []) ≡ times n (get_or lists i list).items = ap (times n) (get_or-map (λ (l : NodeList). l.items) lists i list [] inside) in
    omega arith
