-- The claim words, and what each seat has claimed and seen claimed. Ours,
-- unless a source stands beside.
use Rattle.std.specs.Prelude.{◌≡◌, ℕ, zero, suc, ◌+◌, ◌/◌, ◌%◌, ◌^◌, ◌<◌, ◌≤◌, List, [], ◌∷◌, ◌++◌, length, All, sum_by, Option, Some, None}
use Rattle.std.specs.Int.{bit_at}
use mathlib.Core.Option.{some}
use lib.ListN.{get_elem?}
use Rattle.atomic_table.specs.Table.{State, Me, Step}
use Rattle.atomic_table.specs.Seated.{TableId}
use Rattle.atomic_table.specs.declared.shared.Seat.{Seat}
use Rattle.mark_core.specs.declared.graph.Graph.{Graph}
use Rattle.mark_core.specs.Bits.{bit_of, times}
use Rattle.mark_core.specs.Reach.{Reached, node_count}
use Rattle.steal_mark.specs.declared.shared.claims.Claims.{Claims}

-- the view of a seat, of its parts and its two lists
abbrev pub claims : ℕ → List ℕ → List ℕ → Claims
claims parts claimed seen = record { parts = parts; claimed = claimed; seen = seen }

-- each claimed node is reached, and each seen node has its bit. A seat with
-- no part has claimed nothing
pub record Fits (g : Graph) (words : List ℕ) (v : Claims) : Type 0 where
  pub reached : All (Reached g) v.claimed
  pub seen : All (λ n. bit_of words n ≡ 1) v.seen
  pub idle : v.parts ≡ 0 → v.claimed ≡ []

-- a bit is set exactly where one seat has claimed the node, once
pub record IsClaimed (g : Graph) (s : State (Unit {0}) Claims) : Type 0 where
  pub parts : sum_by (λ v. v.parts) s.views ≡ 1024
  pub wide : length s.words ≡ node_count g / 64 + 1
  pub counted : (n : ℕ) → sum_by (λ v. times n v.claimed) s.views ≡ bit_of s.words n
  pub each : (seat : ℕ) (v : Claims) → get_elem? s.views seat ≡ some v → Fits g s.words v

-- a node whose bit was 0 is claimed
abbrev pub claimed_after : ℕ → ℕ → List ℕ → List ℕ
claimed_after n zero xs = xs ++ n ∷ []
claimed_after n (suc bit) xs = xs

-- the seat after a look at n, whose bit was this
abbrev pub looked : ℕ → ℕ → Claims → Claims
looked n bit v = claims v.parts (claimed_after n bit v.claimed) (v.seen ++ n ∷ [])

-- the step sets the bit of some node, and the seat learns what it was
abbrev pub Looks : Step (Unit {0}) → Me (Unit {0}) Claims → ℕ → Me (Unit {0}) Claims → Type 0
Looks s me found me' = (n : ℕ) × (n / 64 ≡ s.word) × (2 ^ (n % 64) ≡ s.first) × (me' ≡ (looked n (bit_at found (n % 64)) me.0, me.1))

-- who has every part knows all claims: no node is claimed twice, what was seen was claimed, and
-- what was claimed is reached
pub record Knows (g : Graph) (v : Claims) : Type 0 where
  pub once : (n : ℕ) → times n v.claimed ≤ 1
  pub seen : All (λ n. 0 < times n v.claimed) v.seen
  pub reached : All (Reached g) v.claimed

-- the same, where the graph is named
abbrev pub KnowsIn : Option Graph → Claims → Type 0
KnowsIn None v = Unit {0}
KnowsIn (Some g) v = Knows g v

-- a load changes nothing, and tells who has every part of all claims
abbrev pub Learns : Option Graph → Step (Unit {0}) → Me (Unit {0}) Claims → ℕ → Me (Unit {0}) Claims → Type 0
Learns graph s me found me' = (me' ≡ me) × (me.0.parts ≡ 1024 → KnowsIn graph me.0)

-- the seat is one of this table, which has room for each node of the graph
abbrev pub IsSeatOf : {S V : Type 0} → Graph → TableId → Seat S V → Type 0
IsSeatOf g z seat = (seat.table_id ≡ z) × (z.words ≡ node_count g / 64 + 1)
