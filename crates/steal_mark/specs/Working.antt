-- One worker: what holds of it between its turns, and what a turn does. Ours,
-- unless a source stands beside.
use Rattle.std.specs.Prelude.{◌≡◌, ◌⊎◌, ℕ, ◌+◌, ◌/◌, ◌<◌, List, [], ◌∷◌, ◌++◌, All, map, length, sum_by, Some, false}
use Rattle.std.specs.Arc.{arc_value}
use Rattle.crossbeam_deque.specs.Handles.{worker_deque, worker_flavor, worker_view}
use Rattle.mark_core.specs.declared.graph.Graph.{Graph}
use Rattle.mark_core.specs.Bits.{times}
use Rattle.mark_core.specs.Reach.{targets, node_count}
use Rattle.steal_mark.specs.declared.shared.claims.Claims.{Claims}
use Rattle.steal_mark.specs.declared.shared.deques.PassView.{PassView}
use Rattle.steal_mark.specs.declared.turn.marker.Marker.{Marker}
use Rattle.steal_mark.specs.declared.turn.turn.Turn.{Turn}
use Rattle.steal_mark.specs.declared.turn.turn.Turn.TheVariants.{Scanned, Nothing}
use Rattle.steal_mark.specs.Dealing.{SameDeque}
use Rattle.steal_mark.specs.Growing.{Grows}
use Rattle.steal_mark.specs.Stealing.{IsOther, IsPlaced, parts_of, pass_views, took, TookOne}

-- the graph of the marking
abbrev pub graph_of : Marker → Graph
graph_of m = (arc_value m.claim_table).shared.key

-- what the seat has claimed and seen
abbrev pub claims_of : Marker → Claims
claims_of m = m.seat.me.0

-- what it has pushed, and taken of its own deque
abbrev pub own_pass_view : Marker → PassView
own_pass_view m = worker_view m.deque

-- what its passes have taken of each deque
abbrev pub passes_of : Marker → List PassView
passes_of m = pass_views m.others.items

-- the nodes that it has scanned, in order
abbrev pub scans_of : Marker → List ℕ
scans_of m = m.scanned.items

-- how often n was taken, of any deque
abbrev pub taken_by : ℕ → Marker → ℕ
taken_by n m = times n (own_pass_view m).taken + sum_by (λ h. times n h.taken) (passes_of m)

-- the seat and the passes are those of its table, its deques and its graph
pub record IsSeated (m : Marker) : Type 0 where
  pub claim_table : m.seat.table_id ≡ (arc_value m.claim_table).shared.table_id
  pub wide : (arc_value m.claim_table).shared.table_id.words ≡ node_count (graph_of m) / 64 + 1
  pub part : (claims_of m).parts ≡ 1
  pub light : m.seat.me.1 ≡ []
  pub fifo : worker_flavor m.deque ≡ 0
  pub graph : (own_pass_view m).graph ≡ Some (graph_of m)
  pub parts : (own_pass_view m).parts + length m.others.items ≡ 1025
  pub fewer : length m.others.items < 1024
  pub inside : m.number < length m.others.items
  pub places : IsPlaced m.number (parts_of m.others.items)
  pub others : All (IsOther (graph_of m)) m.others.items

-- each target of the nodes was seen
abbrev pub Saw : Graph → List ℕ → List ℕ → Type 0
Saw g seen nodes = All (λ n. All (λ t. 0 < times t seen) (targets g n)) nodes

-- it scanned just what its passes took, saw each target of these claimed, and
-- pushed just what it claimed
pub record Keeps (m : Marker) : Type 0 where
  pub scanned : (n : ℕ) → times n (scans_of m) ≡ taken_by n m
  pub saw : Saw (graph_of m) (claims_of m).seen (scans_of m)
  pub pushed : (n : ℕ) → times n (own_pass_view m).pushed ≡ times n (claims_of m).claimed

-- until it is refused memory
pub record IsSound (m : Marker) : Type 0 where
  pub seated : m.refused ≡ false → IsSeated m
  pub keeps : m.refused ≡ false → Keeps m

-- it is the same worker of the same marking
pub record SameMarker (old new : Marker) : Type 0 where
  pub number : new.number ≡ old.number
  pub claim_table : arc_value new.claim_table ≡ arc_value old.claim_table
  pub table : new.seat.table_id ≡ old.seat.table_id
  pub deque : worker_deque new.deque ≡ worker_deque old.deque
  pub stealers : map (λ o. o.stealer) new.others.items ≡ map (λ o. o.stealer) old.others.items

-- n was taken of its own deque, or of another
abbrev pub TookFrom : ℕ → PassView → List PassView → PassView → List PassView → Type 0
TookFrom n own passes own' passes' = ((own' ≡ took n own) × (passes' ≡ passes)) ⊎ ((own' ≡ own) × TookOne n passes passes')

-- of all that the worker has, the hand that took n has changed
abbrev pub Takes : ℕ → Marker → Marker → Type 0
Takes n old new = TookFrom n (own_pass_view old) (passes_of old) (own_pass_view new) (passes_of new)

-- a turn that scanned n took it, then looked at each target and put what
-- it claimed, and then noted it
pub record Scans (n : ℕ) (old new : Marker) : Type 0 where
  pub mid : PassView
  pub taken : TookFrom n (own_pass_view old) (passes_of old) mid (passes_of new)
  pub grows : Grows (targets (graph_of old) n) (claims_of old) (claims_of new) mid (own_pass_view new)
  pub noted : scans_of new ≡ scans_of old ++ n ∷ []

-- a turn that took nothing. A worker that has every part found its own deque empty:
-- all that it pushed was taken
pub record Idles (old new : Marker) : Type 0 where
  pub claims : claims_of new ≡ claims_of old
  pub own : own_pass_view new ≡ own_pass_view old
  pub passes : passes_of new ≡ passes_of old
  pub noted : scans_of new ≡ scans_of old
  pub empty : (own_pass_view old).parts ≡ 1024 → (n : ℕ) → times n (own_pass_view old).pushed ≡ times n (own_pass_view old).taken

-- what a turn did, by its answer
abbrev pub IsTurn : Turn → Marker → Marker → Type 0
IsTurn (Scanned n) old new = Scans n old new
IsTurn Nothing old new = Idles old new

-- nothing but the passes' hands has changed
pub record SameButTaken (old new : Marker) : Type 0 where
  pub number : new.number ≡ old.number
  pub claim_table : new.claim_table ≡ old.claim_table
  pub seat : new.seat ≡ old.seat
  pub scanned : new.scanned ≡ old.scanned
  pub refused : new.refused ≡ old.refused
  pub deque : SameDeque old.deque new.deque
  pub stealers : map (λ o. o.stealer) new.others.items ≡ map (λ o. o.stealer) old.others.items
  pub others : All (IsOther (graph_of old)) new.others.items
  pub parts : parts_of new.others.items ≡ parts_of old.others.items

-- neither its own deque nor another gave a node
pub record FoundNone (old new : Marker) : Type 0 where
  pub own : own_pass_view new ≡ own_pass_view old
  pub passes : passes_of new ≡ passes_of old
  pub empty : (own_pass_view old).parts ≡ 1024 → (n : ℕ) → times n (own_pass_view old).pushed ≡ times n (own_pass_view old).taken
