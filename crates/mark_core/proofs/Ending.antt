-- Where all queues and hands are empty, all that is reached was scanned.
use Rattle.std.proofs.Common.{◌≡◌, ℕ, ◌<◌, ◌≤◌, List, [], ◌∷◌, refl, sym, ap, ◌∙◌, arith}
use Rattle.std.specs.Prelude.{All, Contains}
use Rattle.std.proofs.Math.Decide.{dec_le}
use Rattle.std.proofs.lemmas.List.Sums.{sum_by-cons}
use Rattle.std.proofs.lemmas.List.Elements.{All-head, All-tail, All-contains}
use mathlib.Core.Logic.{dite}
use Rattle.mark_core.specs.declared.graph.Graph.{Graph}
use Rattle.mark_core.specs.Bits.{times}
use Rattle.mark_core.specs.Reach.{targets, Reached}
use Rattle.mark_core.specs.Machine.{Machine, Worker}
use Rattle.mark_core.specs.Sound.{in_hand, places_at, places, scans, IsIdleWorker, IsIdle, IsMarked}
use Rattle.mark_core.proofs.Counts.{contained}
use Rattle.mark_core.proofs.Walks.{reached_in}
use Rattle.mark_core.proofs.ClaimLemmas.{Claimed}
use Rattle.mark_core.proofs.Keeping.{Saw, Keeps}

-- with nothing in queues and hands, what stands somewhere stands in a log
only_logs : (n : ℕ) (ws : List Worker) → All IsIdleWorker ws → places n ws ≡ scans n ws
only_logs n [] all = refl
only_logs n (w ∷ ws) all =
    let here : IsIdleWorker w = All-head IsIdleWorker w ws all in
    let q : times n w.queue ≡ 0 = ap (times n) here.0 in
    let h : in_hand n w.hand ≡ 0 = ap (in_hand n) here.1 in
    let ih : places n ws ≡ scans n ws = only_logs n ws (All-tail IsIdleWorker w ws all) in
    let a = sum_by-cons (places_at n) w ws in
    let b = sum_by-cons (λ (w : Worker). times n w.log) w ws in
    omega arith

-- the targets of what stands in a log are claimed
logged_saw : (g : Graph) (cl : List ℕ) (n : ℕ) (ws : List Worker) → All (Saw g cl) ws
    → 0 < scans n ws → Claimed cl (targets g n)
logged_saw g cl n [] saw some = absurd (omega arith)
logged_saw g cl n (w ∷ ws) saw some =
    dite (dec_le 1 (times n w.log))
    (λ (here : 1 ≤ times n w.log).
    All-contains (λ n. Claimed cl (targets g n)) w.log n (All-head (Saw g cl) w ws saw).log
    (contained n w.log (omega arith)))
    (λ (not : 1 ≤ times n w.log → ⊥).
    let a = sum_by-cons (λ (w : Worker). times n w.log) w ws in
    logged_saw g cl n ws (All-tail (Saw g cl) w ws saw) (omega arith))

module _ (g : Graph) (m : Machine) (k : Keeps g m) (idle : IsIdle m) where
  -- each claimed node stands in one log, once
  only_claimed : (n : ℕ) → scans n m.workers ≡ times n m.claimed
  only_claimed n = sym (only_logs n m.workers idle) ∙ k.sound.once n

  -- so the targets of a claimed node are claimed
  closed : (a b : ℕ) → 0 < times a m.claimed → Contains (targets g a) b → 0 < times b m.claimed
  closed a b here c =
      let o = only_claimed a in
      All-contains (λ t. 0 < times t m.claimed) (targets g a) b
      (logged_saw g m.claimed a m.workers k.saw (omega arith)) c

  -- and all that is reached is claimed
  all_claimed : (n : ℕ) → Reached g n → 0 < times n m.claimed
  all_claimed =
      reached_in g (λ n. 0 < times n m.claimed) closed
      (λ r c. All-contains (λ t. 0 < times t m.claimed) g.roots.items r k.roots c)

  -- so the claimed nodes are the reached ones, each in one log, once
  pub idle_marked : IsMarked g m
  idle_marked = record {
    marked = λ n. (
      λ c. All-contains (Reached g) m.claimed n k.sound.reached c,
      λ r. contained n m.claimed (all_claimed n r),
    );
    scanned = λ n r.
        let o = only_claimed n in
        let d = k.sound.distinct n in
        let h = all_claimed n r in
        omega arith;
    only = only_claimed;
  }
