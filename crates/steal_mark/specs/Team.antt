-- The markers of one marking, and what is kept beside them. Ours, unless a source stands beside.
use Rattle.std.specs.Prelude.{◌≡◌, ℕ, ◌+◌, ◌<◌, ◌↔◌, List, [], All, length, map, slice_index_or, sum_by, false}
use Rattle.std.specs.Arc.{arc_value}
use Rattle.crossbeam_deque.specs.Handles.{worker_deque, stealer_deque}
use Rattle.atomic_table.specs.Seated.{TableId}
use Rattle.mark_core.specs.declared.graph.Graph.{Graph}
use Rattle.mark_core.specs.Bits.{bit_of, times}
use Rattle.mark_core.specs.Reach.{IsInRange, Reached}
use Rattle.steal_mark.specs.declared.shared.claims.Claims.{Claims}
use Rattle.steal_mark.specs.declared.start.roots.Rest.{Rest}
use Rattle.steal_mark.specs.declared.turn.marker.Marker.{Marker}
use Rattle.steal_mark.specs.Claiming.{IsSeatOf}
use Rattle.steal_mark.specs.Closing.{Id, listing}
use Rattle.steal_mark.specs.Listing.{HoldsEachOnce}
use Rattle.steal_mark.specs.Working.{IsSound, SameMarker, claims_of, graph_of}
use Rattle.steal_mark.specs.Parts.{ClaimTable, Deque, NodeList, PassRow}

-- the kept seat has claimed nothing, has seen each root claimed, and has the parts that the
-- workers' seats have not
pub record IsRest (g : Graph) (r : Rest) : Type 0 where
  pub graph : (arc_value r.claim_table).shared.key ≡ g
  pub seat : IsSeatOf g (arc_value r.claim_table).shared.table_id r.seat
  pub light : r.seat.me.1 ≡ []
  pub parts : r.seat.me.0.parts + r.workers ≡ 1024
  pub few : r.workers < 1024
  pub claimed : (n : ℕ) → times n r.seat.me.0.claimed ≡ 0
  pub roots : All (λ t. 0 < times t r.seat.me.0.seen) g.roots.items

-- a worker of this marking, which has these deques
pub record IsOne (b : ClaimTable) (ids : List Id) (m : Marker) : Type 0 where
  pub claim_table : arc_value m.claim_table ≡ b
  pub deque : worker_deque m.deque ≡ slice_index_or ids m.number (worker_deque m.deque)
  pub order : map (λ o. stealer_deque o.stealer) m.others.items ≡ ids

-- each stands at its number
abbrev pub Numbered : List Marker → Type 0
Numbered ms = (k : ℕ) (d : Marker) → k < length ms → (slice_index_or ms k d).number ≡ k

-- these are workers of the marking. Where none is missing, they stand in order
pub record IsTeam (r : Rest) (ms : List Marker) : Type 0 where
  pub ids : List Id
  pub workers : length ids ≡ r.workers
  pub sound : All IsSound ms
  pub each : All (IsOne (arc_value r.claim_table) ids) ms
  pub order : length ms ≡ r.workers → Numbered ms

-- it was not refused memory
abbrev pub IsWilling : Marker → Type 0
IsWilling m = m.refused ≡ false

-- the marks are the reached nodes, each worker has a list, and the lists
-- together hold each of these once
pub record IsMarked (g : Graph) (workers : ℕ) (words : List ℕ) (lists : List NodeList) : Type 0 where
  pub marks : (n : ℕ) → (bit_of words n ≡ 1) ↔ Reached g n
  pub once : HoldsEachOnce g (listing lists)
  pub many : length lists ≡ workers

-- a seat, which took in the seats of these workers
pub record Joined (ms : List Marker) (v w : Claims) : Type 0 where
  pub parts : w.parts ≡ v.parts + sum_by (λ m. (claims_of m).parts) ms
  pub claimed : (n : ℕ) → times n w.claimed ≡ times n v.claimed + sum_by (λ m. times n (claims_of m).claimed) ms
  pub seen : (n : ℕ) → times n w.seen ≡ times n v.seen + sum_by (λ m. times n (claims_of m).seen) ms

-- the workers' deques, passes, lists and seats, apart
pub record Apart (ms : List Marker) (deques : List Deque) (rows : List PassRow) (lists : List NodeList) (v w : Claims) : Type 0 where
  pub deques_are : deques ≡ map (λ m. m.deque) ms
  pub rows_are : rows ≡ map (λ m. m.others) ms
  pub lists_are : lists ≡ map (λ m. m.scanned) ms
  pub joined : Joined ms v w

-- the worker's seat is one of this table, and holds no slot
abbrev pub IsLoose : TableId → Marker → Type 0
IsLoose z m = (m.seat.table_id ≡ z) × (m.seat.me.1 ≡ [])

-- each is the same worker as before, after some turns
pub record AreWorked (old new : List Marker) : Type 0 where
  pub many : length new ≡ length old
  pub same : (k : ℕ) (a b : Marker) → k < length old → SameMarker (slice_index_or old k a) (slice_index_or new k b)
  pub sound : All IsSound new

-- the worker may take turns on this graph
abbrev pub IsReady : Graph → Marker → Type 0
IsReady g m = IsSound m × (g ≡ graph_of m) × IsInRange g

-- it is the same worker, after some turns
abbrev pub IsKept : Marker → Marker → Type 0
IsKept old new = SameMarker old new × IsSound new
