-- The passes on the deques that are still open, worker by worker. Ours,
-- unless a source stands beside.
use Rattle.std.specs.Prelude.{◌≡◌, slice_index_or, ℕ, ◌+◌, ◌<◌, ◌≤◌, List, All, length, map, sum_by, Some}
use Rattle.crossbeam_deque.specs.Handles.{worker_deque, worker_flavor, worker_view, stealer_deque}
use Rattle.atomic_blocks.specs.Lent.{RowsId}
use Rattle.std.proofs.Common.{Global}
use Rattle.mark_core.specs.declared.graph.Graph.{Graph}
use Rattle.mark_core.specs.Bits.{times}
use Rattle.steal_mark.specs.declared.shared.claims.Claims.{Claims}
use Rattle.steal_mark.specs.Stealing.{IsOther, IsPlaced, pass_views, parts_of}
use Rattle.steal_mark.specs.Working.{Saw}
use Rattle.steal_mark.specs.Listing.{listed}
use Rattle.steal_mark.specs.Parts.{Deque, NodeList, PassRow}

-- what tells one deque from another
abbrev pub Id : Type 0
Id = RowsId × Global

-- which deques these are
abbrev pub ids_of : List Deque → List Id
ids_of deques = map worker_deque deques

-- the passes of the worker with this number, one on each of these deques, in order
pub record IsRow (g : Graph) (ids : List Id) (number : ℕ) (row : PassRow) : Type 0 where
  pub others : All (IsOther g) row.items
  pub order : map (λ o. stealer_deque o.stealer) row.items ≡ ids
  pub places : IsPlaced number (parts_of row.items)

-- the passes of all workers
abbrev pub AreRows : Graph → List Id → List PassRow → Type 0
AreRows g ids rows = (k : ℕ) (d : PassRow) → k < length rows → IsRow g ids k (slice_index_or rows k d)

-- how often n was taken by these passes
abbrev pub taken_in : ℕ → List PassRow → ℕ
taken_in n rows = sum_by (λ row. sum_by (λ h. times n h.taken) (pass_views row.items)) rows

-- a deque that is still open, while `many` workers have a pass on it, of
-- which its owner's has no part
pub record IsOpen (g : Graph) (many : ℕ) (d : Deque) : Type 0 where
  pub fifo : worker_flavor d ≡ 0
  pub graph : (worker_view d).graph ≡ Some g
  pub parts : (worker_view d).parts + many ≡ 1025
  pub part : 0 < (worker_view d).parts

-- how often n was pushed to these deques
abbrev pub pushed_in : ℕ → List Deque → ℕ
pushed_in n deques = sum_by (λ (d : Deque). times n (worker_view d).pushed) deques

-- how often n was taken from these deques by their owners
abbrev pub own_in : ℕ → List Deque → ℕ
own_in n deques = sum_by (λ (d : Deque). times n (worker_view d).taken) deques

-- the lists of the workers
abbrev pub listing : List NodeList → List (List ℕ)
listing lists = map (λ l. l.items) lists

-- what the lists have, with what was pushed to the open deques, is what was claimed,
-- with what was taken of these
pub record Balanced (g : Graph) (deques : List Deque) (rows : List PassRow) (lists : List NodeList) (v : Claims) : Type 0 where
  pub parts : v.parts ≡ 1024
  pub deques_open : All (IsOpen g (length rows)) deques
  pub passes : AreRows g (ids_of deques) rows
  pub room : length deques ≤ length lists
  pub owned : length deques ≤ length rows
  pub counts : (n : ℕ) → listed n (listing lists) + pushed_in n deques ≡ times n v.claimed + (own_in n deques + taken_in n rows)
  pub backed : (n : ℕ) → pushed_in n deques ≤ times n v.claimed
  pub saw : All (Saw g v.seen) (listing lists)
  pub roots : All (λ r. 0 < times r v.seen) g.roots.items
