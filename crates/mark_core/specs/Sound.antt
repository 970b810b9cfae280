-- What holds of each state of the mark machine, and of an idle one. Ours, unless a source stands
-- beside.
use Rattle.std.specs.Prelude.{◌≡◌, ℕ, ◌+◌, ◌≤◌, ◌↔◌, List, [], ◌∷◌, All, Contains, sum_by, Option, Some, None}
use Rattle.mark_core.specs.declared.graph.Graph.{Graph}
use Rattle.mark_core.specs.declared.event.Hand.{Hand}
use Rattle.mark_core.specs.Bits.{times}
use Rattle.mark_core.specs.Reach.{Reached}
use Rattle.mark_core.specs.Machine.{Machine, Worker}

-- how often n waits: once, where it is the target that waits
abbrev pub in_wait : ℕ → Option ℕ → ℕ
in_wait n None = 0
in_wait n (Some target) = times n (target ∷ [])

-- how often n stands in a hand, as its node or as the target that waits
abbrev pub in_hand : ℕ → Option Hand → ℕ
in_hand n None = 0
in_hand n (Some hand) = times n (hand.node ∷ []) + in_wait n hand.waits

-- how often n stands with a worker
abbrev pub places_at : ℕ → Worker → ℕ
places_at n w = times n w.queue + times n w.log + in_hand n w.hand

-- how often n stands in a queue, a log or a hand
abbrev pub places : ℕ → List Worker → ℕ
places n ws = sum_by (places_at n) ws

-- how often n stands in a log
abbrev pub scans : ℕ → List Worker → ℕ
scans n ws = sum_by (λ w. times n w.log) ws

-- each claimed node is reached, is claimed once, and stands in one queue, log or hand, once;
-- nothing else stands there
pub record IsSound (g : Graph) (m : Machine) : Type 0 where
  pub reached : All (Reached g) m.claimed
  pub distinct : (n : ℕ) → times n m.claimed ≤ 1
  pub once : (n : ℕ) → places n m.workers ≡ times n m.claimed

-- the worker has nothing to be scanned
abbrev pub IsIdleWorker : Worker → Type 0
IsIdleWorker w = (w.queue ≡ []) × (w.hand ≡ None)

-- all queues and hands are empty
abbrev pub IsIdle : Machine → Type 0
IsIdle m = All IsIdleWorker m.workers

-- the claimed nodes are those that are reached, and the logs together hold each of them once
-- and nothing else
pub record IsMarked (g : Graph) (m : Machine) : Type 0 where
  pub marked : (n : ℕ) → Contains m.claimed n ↔ Reached g n
  pub scanned : (n : ℕ) → Reached g n → scans n m.workers ≡ 1
  pub only : (n : ℕ) → scans n m.workers ≡ times n m.claimed
