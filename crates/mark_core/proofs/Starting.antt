-- The start is sound.
use Rattle.std.proofs.Common.{◌≡◌, ℕ, ◌+◌, ◌*◌, ◌%◌, ◌<◌, List, [], ◌∷◌, ◌++◌, length, replicate, refl, arith}
use Rattle.std.specs.Prelude.{All}
use Rattle.std.proofs.Math.Nat.{mod-lt}
use Rattle.std.proofs.lemmas.List.{length-replicate}
use Rattle.std.proofs.lemmas.List.Folds.{sum_by-replicate}
use Rattle.std.proofs.lemmas.List.Elements.{All-nil, All-replicate}
use Rattle.mark_core.specs.declared.graph.Graph.{Graph}
use Rattle.mark_core.specs.Bits.{times}
use Rattle.mark_core.specs.Claims.{claim_all}
use Rattle.mark_core.specs.Reach.{Reached, targets}
use Rattle.mark_core.specs.Machine.{Worker, idle, worker_at, enqueued, deal, machine_start}
use Rattle.mark_core.specs.Sound.{places_at, places}
use Rattle.mark_core.proofs.Counts.{times-cons}
use Rattle.mark_core.proofs.ClaimLemmas.{Claimed, claim_all-all_of, claim_all-once, claim_all-there}
use Rattle.mark_core.proofs.Explores.{roots_reached}
use Rattle.mark_core.proofs.Dealing.{length-enqueued}
use Rattle.mark_core.proofs.Workers.{places-enqueued}
use Rattle.mark_core.proofs.Keeping.{Saw, Keeps, saw-with_queue}

-- ---- each is dealt out once
-- a turn is some worker's
turn_in : (turn : ℕ) (ws : List Worker) → 0 < length ws → turn % length ws < length ws
turn_in turn ws some = mod-lt turn {m = length ws} some

-- each node that is dealt out is in one queue more
places-deal : (n : ℕ) (ws : List Worker) (turn : ℕ) (ns : List ℕ) → 0 < length ws
    → places n (deal ws turn ns) ≡ places n ws + times n ns
places-deal n ws turn [] some = omega arith
places-deal n ws turn (x ∷ ns) some =
    let w : ℕ = turn % length ws in
    let next : List Worker = enqueued ws w x in
    let l = length-enqueued ws w x in
    let ih : places n (deal next (turn + 1) ns) ≡ places n next + times n ns =
    places-deal n next (turn + 1) ns (omega arith) in
    let p = places-enqueued n ws w (turn_in turn ws some) x in
    let t = times-cons n x ns in
    omega arith

-- a queue changes nothing that was looked at
saw-deal : (g : Graph) (cl : List ℕ) (ws : List Worker) (turn : ℕ) (ns : List ℕ) → 0 < length ws
    → All (Saw g cl) ws → All (Saw g cl) (deal ws turn ns)
saw-deal g cl ws turn [] some saw = saw
saw-deal g cl ws turn (x ∷ ns) some saw =
    let w : ℕ = turn % length ws in
    let l = length-enqueued ws w x in
    saw-deal g cl (enqueued ws w x) (turn + 1) ns (omega arith)
    (saw-with_queue g cl ws w (turn_in turn ws some) saw ((worker_at ws w).queue ++ x ∷ []))

-- the roots are claimed once each, and each stands in a queue
module _ (g : Graph) (workers : ℕ) (some : 0 < workers) where
  -- the distinct roots
  abbrev roots : List ℕ
  roots = claim_all [] g.roots.items

  -- the workers before the dealing
  abbrev idlers : List Worker
  idlers = replicate workers idle

  -- there is one at least
  idlers_there : 0 < length idlers
  idlers_there = let l = length-replicate workers idle in omega arith

  -- idle workers have nothing, so each root is in one queue, once
  dealt_once : (n : ℕ) → places n (deal idlers 0 roots) ≡ times n roots
  dealt_once n =
      let p = places-deal n idlers 0 roots idlers_there in
      let z : places n idlers ≡ workers * 0 = sum_by-replicate (places_at n) workers idle in
      omega arith

  -- an idle worker has looked at nothing
  idle_saw : Saw g roots idle
  idle_saw = record { log = All-nil (λ n. Claimed roots (targets g n)); hand = tt }

  -- so the start is sound
  pub start_keeps : Keeps g (machine_start g workers)
  start_keeps = record {
    sound = record {
      reached = claim_all-all_of (Reached g) [] g.roots.items (All-nil (Reached g))
          (roots_reached g);
      distinct = claim_all-once [] g.roots.items
          (λ n. let z : times n [] ≡ 0 = refl in omega arith);
      once = dealt_once;
    };
    roots = claim_all-there [] g.roots.items;
    saw = saw-deal g roots idlers 0 roots idlers_there
        (All-replicate (Saw g roots) workers idle idle_saw);
  }
