-- How a marking begins. Ours, unless a source stands beside.
use Rattle.std.specs.Prelude.{◌≡◌, ℕ, ◌+◌, ◌-◌, ◌<◌, Bool, true, false, List, [], ◌++◌, All, Contains, length, flat_map, map, slice_index_or, sum_by, Some}
use Rattle.crossbeam_deque.specs.Handles.{view, IsPassOf, worker_deque, worker_flavor, worker_view, stealer_deque, stealer_flavor}
use Rattle.mark_core.specs.declared.graph.Graph.{Graph}
use Rattle.mark_core.specs.Bits.{times}
use Rattle.steal_mark.specs.declared.shared.claims.Claims.{Claims}
use Rattle.steal_mark.specs.declared.turn.marker.Marker.{Marker}
use Rattle.steal_mark.specs.declared.turn.thief_pass.ThiefPass.{ThiefPass}
use Rattle.steal_mark.specs.declared.start.roots.Rest.{Rest}
use Rattle.steal_mark.specs.Dealing.{pass_view}
use Rattle.steal_mark.specs.Stealing.{pass_views}
use Rattle.steal_mark.specs.Closing.{Id, IsOpen, IsRow, ids_of, pushed_in}
use Rattle.steal_mark.specs.Working.{IsSound, claims_of, own_pass_view, scans_of}
use Rattle.steal_mark.specs.Team.{IsRest, IsOne, IsTeam, IsWilling}
use Rattle.steal_mark.specs.Parts.{ClaimTable, Deque, PassRow}

-- a deque of this graph, of which its worker has every part and has taken nothing
pub record IsDealing (g : Graph) (d : Deque) : Type 0 where
  pub fifo : worker_flavor d ≡ 0
  pub graph : (worker_view d).graph ≡ Some g
  pub parts : (worker_view d).parts ≡ 1024
  pub taken : (worker_view d).taken ≡ []

-- these roots were seen claimed, and what was claimed of them was pushed to the deques
pub record Deals (g : Graph) (roots : List ℕ) (v w : Claims) (before after : List Deque) : Type 0 where
  pub parts : w.parts ≡ v.parts
  pub seen : w.seen ≡ v.seen ++ roots
  pub among : (n : ℕ) → 0 < times n w.claimed → 0 < times n v.claimed + times n roots
  pub pushed : (n : ℕ) → pushed_in n after + times n v.claimed ≡ pushed_in n before + times n w.claimed
  pub deques : All (IsDealing g) after
  pub many : length after ≡ length before

-- the part that a new pass gets: none where it is its owner's
abbrev pub part_of : Bool → ℕ
part_of true = 0
part_of false = 1

-- a new pass on the deque, which has this part
pub record IsCut (part : ℕ) (old new : Deque) (o : ThiefPass) : Type 0 where
  pub deque : stealer_deque o.stealer ≡ worker_deque old
  pub fifo : stealer_flavor o.stealer ≡ 0
  pub pass : IsPassOf (worker_deque old) o.pass
  pub held : view o.pass ≡ pass_view part (worker_view old).graph [] []
  pub left : worker_view new ≡ pass_view ((worker_view old).parts - part) (worker_view old).graph (worker_view old).pushed (worker_view old).taken

-- the passes of a worker that has taken nothing
pub record IsNewRow (g : Graph) (ids : List Id) (number : ℕ) (r : PassRow) : Type 0 where
  pub row : IsRow g ids number r
  pub untaken : (n : ℕ) → sum_by (λ h. times n h.taken) (pass_views r.items) ≡ 0

-- the passes of all workers, of which none has taken anything
abbrev pub AreNewRows : Graph → List Id → List PassRow → Type 0
AreNewRows g ids rows = (k : ℕ) (d : PassRow) → k < length rows → IsNewRow g ids k (slice_index_or rows k d)

-- a deque of which nothing was taken, on which `many` workers have a pass
pub record IsSpread (g : Graph) (many : ℕ) (d : Deque) : Type 0 where
  pub is_open : IsOpen g many d
  pub untaken : (worker_view d).taken ≡ []

-- what was pushed to each deque
abbrev pub pushes_of : List Deque → List (List ℕ)
pushes_of deques = map (λ (d : Deque). (worker_view d).pushed) deques

-- what was pushed to all of them
abbrev pub pushed_to : List Deque → List ℕ
pushed_to deques = flat_map (λ (d : Deque). (worker_view d).pushed) deques

-- a worker at this number that has taken no turn
pub record IsStarted (b : ClaimTable) (ids : List Id) (number : ℕ) (m : Marker) : Type 0 where
  pub sound : IsSound m
  pub one : IsOne b ids m
  pub number_is : m.number ≡ number
  pub willing : IsWilling m
  pub unscanned : scans_of m ≡ []

-- each root was claimed and pushed once, and nothing else
pub record DealsOnce (g : Graph) (ms : List Marker) : Type 0 where
  pub claimed : (n : ℕ) → Contains g.roots.items n → sum_by (λ m. times n (claims_of m).claimed) ms ≡ 1
  pub pushed : (n : ℕ) → sum_by (λ m. times n (own_pass_view m).pushed) ms ≡ sum_by (λ m. times n (claims_of m).claimed) ms
  pub only : (n : ℕ) → 0 < sum_by (λ m. times n (claims_of m).claimed) ms → Contains g.roots.items n

-- a marking of the graph by `workers` workers, none of which has taken a turn
pub record Begins (g : Graph) (workers : ℕ) (r : Rest) (ms : List Marker) : Type 0 where
  pub rest : IsRest g r
  pub team : IsTeam r ms
  pub workers_are : r.workers ≡ workers
  pub many : length ms ≡ workers
  pub willing : All IsWilling ms
  pub unscanned : All (λ m. scans_of m ≡ []) ms
  pub once : DealsOnce g ms

-- a new deque of this graph
pub record IsFresh (g : Graph) (d : Deque) : Type 0 where
  pub fifo : worker_flavor d ≡ 0
  pub held : worker_view d ≡ pass_view 1024 (Some g) [] []

-- markers were made of the last deques, and these deques and rows are left
pub record Starts (g : Graph) (b : ClaimTable) (ids : List Id) (v w : Claims) (deques : List Deque) (rows : List PassRow) (ms : List Marker) : Type 0 where
  pub opened : All (IsSpread g (length ids)) deques
  pub left : AreNewRows g ids rows
  pub many : length rows ≡ length deques
  pub total : length deques + length ms ≡ length ids
  pub order : ids_of deques ++ map (λ m. worker_deque m.deque) ms ≡ ids
  pub parts : w.parts + length ms ≡ v.parts
  pub claimed : (n : ℕ) → times n w.claimed ≡ pushed_in n deques
  pub seen : w.seen ≡ v.seen
  pub given : (n : ℕ) → times n w.claimed + sum_by (λ m. times n (claims_of m).claimed) ms ≡ times n v.claimed
  pub started : (k : ℕ) (d : Marker) → k < length ms → IsStarted b ids (length deques + k) (slice_index_or ms k d)
