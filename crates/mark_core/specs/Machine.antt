-- The mark machine: what the workers of a marking may do, one event after another. Ours, unless a
-- source stands beside.
use Rattle.std.specs.Prelude.{◌≡◌, ℕ, ◌+◌, ◌<◌, ◌%◌, if◌then◌else◌, List, [], ◌∷◌, ◌++◌, length, replicate, take, slice_get, slice_index_or, slice_set, Option, Some, None}
use Rattle.mark_core.specs.declared.graph.Graph.{Graph}
use Rattle.mark_core.specs.declared.event.Hand.{Hand}
use Rattle.mark_core.specs.declared.event.MarkEvent.{MarkEvent}
use Rattle.mark_core.specs.declared.event.MarkEvent.TheVariants.{Look, Put, Take, Finish}
use Rattle.mark_core.specs.Claims.{is_in, claim, claim_all}
use Rattle.mark_core.specs.Reach.{targets}

-- one worker: the nodes to be scanned, those that it has scanned, and what it holds
pub record Worker : Type 0 where
  pub queue : List ℕ
  pub log : List ℕ
  pub hand : Option Hand

-- all workers, and what they have claimed: a set, in the order of claiming
pub record Machine : Type 0 where
  pub claimed : List ℕ
  pub workers : List Worker

-- ---- the workers
-- a worker that has nothing
abbrev pub idle : Worker
idle = record { queue = []; log = []; hand = None }

-- the worker of a number. A number that is no worker's has nothing
abbrev pub worker_at : List Worker → ℕ → Worker
worker_at ws w = slice_index_or ws w idle

-- a worker gets another queue
abbrev pub with_queue : List Worker → ℕ → List ℕ → List Worker
with_queue ws w nodes = slice_set ws w (record (worker_at ws w) { queue = nodes })

-- a worker gets another log
abbrev pub with_log : List Worker → ℕ → List ℕ → List Worker
with_log ws w nodes = slice_set ws w (record (worker_at ws w) { log = nodes })

-- a worker holds something else, or nothing
abbrev pub with_hand : List Worker → ℕ → Option Hand → List Worker
with_hand ws w it = slice_set ws w (record (worker_at ws w) { hand = it })

-- a node goes to the end of a queue
abbrev pub enqueued : List Worker → ℕ → ℕ → List Worker
enqueued ws w n = with_queue ws w ((worker_at ws w).queue ++ n ∷ [])

-- a node goes to the end of a log
abbrev pub logged : List Worker → ℕ → ℕ → List Worker
logged ws w n = with_log ws w ((worker_at ws w).log ++ n ∷ [])

-- a node comes from the front of a queue
abbrev pub IsTaken : List Worker → ℕ → ℕ → List Worker → Type 0
IsTaken old from n new =
    (rest : List ℕ) × ((worker_at old from).queue ≡ n ∷ rest) × (new ≡ with_queue old from rest)

-- ---- the start
-- the nodes go to the queues in turn, from that of worker `turn` on
abbrev pub deal : List Worker → ℕ → List ℕ → List Worker
deal ws turn [] = ws
deal ws turn (n ∷ ns) = deal (enqueued ws (turn % length ws) n) (turn + 1) ns

-- each distinct root, in the order of first occurrence, is claimed and dealt out
abbrev pub machine_start : Graph → ℕ → Machine
machine_start g workers =
    let roots = claim_all [] g.roots.items in
    record { claimed = roots; workers = deal (replicate workers idle) 0 roots }

-- ---- the events
-- the worker looks at the next edge of the node in its hand, where no target waits.
-- A target that is not claimed becomes so, and waits in the hand
pub record Looks (g : Graph) (old : Machine) (worker target : ℕ) (new : Machine) : Type 0 where
  pub hand : Hand
  pub there : worker < length old.workers
  pub holds : (worker_at old.workers worker).hand ≡ Some hand
  pub free : hand.waits ≡ None
  pub next : slice_get (targets g hand.node) hand.looked ≡ Some target
  pub claims : new.claimed ≡ claim old.claimed target
  pub counts : new.workers ≡ with_hand old.workers worker (Some (record {
    node = hand.node;
    looked = hand.looked + 1;
    waits = if is_in target old.claimed then None else Some target;
  }))

-- a target waits in the worker's hand; it goes to the end of the worker's own queue
pub record Puts (old : Machine) (worker : ℕ) (new : Machine) : Type 0 where
  pub hand : Hand
  pub target : ℕ
  pub there : worker < length old.workers
  pub holds : (worker_at old.workers worker).hand ≡ Some hand
  pub waits : hand.waits ≡ Some target
  pub claims : new.claimed ≡ old.claimed
  pub puts : new.workers ≡ with_hand (enqueued old.workers worker target) worker
      (Some (record { node = hand.node; looked = hand.looked; waits = None }))

-- the worker's hand is empty, and the queue is not; its front goes into the hand
pub record Takes (old : Machine) (worker from : ℕ) (new : Machine) : Type 0 where
  pub node : ℕ
  pub mid : List Worker
  pub there : worker < length old.workers
  pub queue_there : from < length old.workers
  pub empty : (worker_at old.workers worker).hand ≡ None
  pub front : IsTaken old.workers from node mid
  pub claims : new.claimed ≡ old.claimed
  pub takes : new.workers ≡ with_hand mid worker
      (Some (record { node = node; looked = 0; waits = None }))

-- all edges of the hand's node are looked at, and no target waits.
-- The node goes to the end of the log, and the hand is empty
pub record Finishes (g : Graph) (old : Machine) (worker : ℕ) (new : Machine) : Type 0 where
  pub hand : Hand
  pub there : worker < length old.workers
  pub holds : (worker_at old.workers worker).hand ≡ Some hand
  pub free : hand.waits ≡ None
  pub all : hand.looked ≡ length (targets g hand.node)
  pub claims : new.claimed ≡ old.claimed
  pub notes : new.workers ≡ with_hand (logged old.workers worker hand.node) worker None

-- the event is allowed in `old`, and leads to `new`
abbrev pub Step : Graph → Machine → MarkEvent → Machine → Type 0
Step g old (Look worker target) new = Looks g old worker target new
Step g old (Put worker) new = Puts old worker new
Step g old (Take worker from) new = Takes old worker from new
Step g old (Finish worker) new = Finishes g old worker new

-- the event isn't allowed: it leads to no state
abbrev pub IsForbidden : Graph → Machine → MarkEvent → Type 0
IsForbidden g m event = (new : Machine) → Step g m event new → ⊥

-- all events are allowed, one after another, and lead to `new`
abbrev pub Run : Graph → Machine → List MarkEvent → Machine → Type 0
Run g old [] new = new ≡ old
Run g old (event ∷ events) new = (mid : Machine) × Step g old event mid × Run g mid events new

-- the first event that isn't allowed stands at this place: those before it are a run
abbrev pub IsFirstBad : Graph → Machine → List MarkEvent → ℕ → Type 0
IsFirstBad g m events place =
    (event : MarkEvent)
    × (mid : Machine)
    × (slice_get events place ≡ Some event)
    × Run g m (take place events) mid
    × IsForbidden g mid event
