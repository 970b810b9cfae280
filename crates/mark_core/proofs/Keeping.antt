-- What each event keeps: a sound state, in which each worker has claimed what it looked at.
use Rattle.std.proofs.Common.{◌≡◌, ℕ, ◌+◌, ◌<◌, List, [], ◌∷◌, ◌++◌, Option, Some, None, length, take, ◌∙◌, ap, subst, arith}
use Rattle.std.specs.Prelude.{All}
use Rattle.std.proofs.lemmas.List.Elements.{All-append, All-cons, All-nil, All-weaker, All-set, All-get_or, All-contains}
use Rattle.mark_core.specs.declared.graph.Graph.{Graph}
use Rattle.mark_core.specs.declared.event.Hand.{Hand}
use Rattle.mark_core.specs.Bits.{times}
use Rattle.mark_core.specs.Claims.{claim}
use Rattle.mark_core.specs.Reach.{targets, Reached}
use Rattle.mark_core.specs.Machine.{Machine, Worker, idle, worker_at, with_queue, with_hand, logged}
use Rattle.mark_core.specs.Sound.{in_wait, in_hand, places_at, IsSound}
use Rattle.mark_core.proofs.Counts.{contained}
use Rattle.mark_core.proofs.ClaimLemmas.{Claimed, Claimed-more, claim_keeps}
use Rattle.mark_core.proofs.Workers.{places_at-le}

-- the edges that a hand has looked at lead to claimed nodes
abbrev pub SawHand : Graph → List ℕ → Option Hand → Type 0
SawHand g claimed None = Unit {0}
SawHand g claimed (Some h) = Claimed claimed (take h.looked (targets g h.node))

-- what the worker has looked at is claimed
pub record Saw (g : Graph) (claimed : List ℕ) (w : Worker) : Type 0 where
  pub log : All (λ n. Claimed claimed (targets g n)) w.log
  pub hand : SawHand g claimed w.hand

-- a sound state, with the roots claimed, and all that was looked at
pub record Keeps (g : Graph) (m : Machine) : Type 0 where
  pub sound : IsSound g m
  pub roots : Claimed m.claimed g.roots.items
  pub saw : All (Saw g m.claimed) m.workers

-- ---- more is claimed
module _ (g : Graph) (cl : List ℕ) (t : ℕ) where
  -- what was claimed stays so
  pub claimed_more : (ns : List ℕ) → Claimed cl ns → Claimed (claim cl t) ns
  claimed_more ns h = Claimed-more cl (claim cl t) ns (λ n. claim_keeps n t cl) h

  -- what a hand has looked at stays claimed
  hand_more : (h : Option Hand) → SawHand g cl h → SawHand g (claim cl t) h
  hand_more None s = tt
  hand_more (Some h) s = claimed_more (take h.looked (targets g h.node)) s

  -- what a worker has looked at stays claimed
  saw_more : (w : Worker) → Saw g cl w → Saw g (claim cl t) w
  saw_more w s = record {
    log = All-weaker (λ n. Claimed cl (targets g n)) (λ n. Claimed (claim cl t) (targets g n))
        (λ n p. claimed_more (targets g n) p) w.log s.log;
    hand = hand_more w.hand s.hand;
  }

  -- and so for each worker
  pub all_saw_more : (ws : List Worker) → All (Saw g cl) ws → All (Saw g (claim cl t)) ws
  all_saw_more ws saw = All-weaker (Saw g cl) (Saw g (claim cl t)) saw_more ws saw

-- ---- one worker changes
module _ (g : Graph) (cl : List ℕ) (ws : List Worker) (w : ℕ) (there : w < length ws)
    (saw : All (Saw g cl) ws) where
  -- each worker has claimed what it looked at, so this one has
  saw_at : Saw g cl (worker_at ws w)
  saw_at = All-get_or (Saw g cl) ws w idle there saw

  -- what a hand has looked at is claimed
  pub saw_hand : (hand : Hand) → (worker_at ws w).hand ≡ Some hand
      → Claimed cl (take hand.looked (targets g hand.node))
  saw_hand hand is = subst (SawHand g cl) is saw_at.hand

  -- another queue changes nothing that was looked at
  pub saw-with_queue : (q : List ℕ) → All (Saw g cl) (with_queue ws w q)
  saw-with_queue q =
      All-set (Saw g cl) ws w (record (worker_at ws w) { queue = q })
      (record { log = saw_at.log; hand = saw_at.hand }) saw

  -- another hand needs what it has looked at
  pub saw-with_hand : (h : Option Hand) → SawHand g cl h → All (Saw g cl) (with_hand ws w h)
  saw-with_hand h s =
      All-set (Saw g cl) ws w (record (worker_at ws w) { hand = h })
      (record { log = saw_at.log; hand = s }) saw

  -- one more node of the log needs all its targets
  pub saw-logged : (n : ℕ) → Claimed cl (targets g n) → All (Saw g cl) (logged ws w n)
  saw-logged n s =
      let P : ℕ → Type 0 = λ n. Claimed cl (targets g n) in
      let log : All P ((worker_at ws w).log ++ n ∷ []) =
      All-append P (worker_at ws w).log (n ∷ []) saw_at.log (All-cons P n [] s (All-nil P)) in
      All-set (Saw g cl) ws w (record (worker_at ws w) { log = (worker_at ws w).log ++ n ∷ [] })
      (record { log = log; hand = saw_at.hand }) saw

-- ---- what a worker holds
-- the places in a hand are its node's, and those of the target that waits
pub hand_places : (n : ℕ) (h : Option Hand) (hand : Hand) (waits : Option ℕ)
    → h ≡ Some hand → hand.waits ≡ waits → in_hand n h ≡ times n (hand.node ∷ []) + in_wait n waits
hand_places n h hand waits holds is =
    ap (in_hand n) holds ∙ ap (λ o. times n (hand.node ∷ []) + in_wait n o) is

-- what stands with a worker is reached
pub there_reached : (g : Graph) (m : Machine) (w n : ℕ)
    → IsSound g m → w < length m.workers → 0 < places_at n (worker_at m.workers w) → Reached g n
there_reached g m w n sound there some =
    let le = places_at-le n m.workers w there in
    let e = sound.once n in
    All-contains (Reached g) m.claimed n sound.reached (contained n m.claimed (omega arith))
