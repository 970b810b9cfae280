-- Counts over workers of which one changes.
use Rattle.std.proofs.Common.{◌≡◌, ◌≢◌, ℕ, ◌+◌, ◌<◌, ◌≤◌, List, [], ◌∷◌, ◌++◌, Option, length, set, sym, ap, ◌∙◌, arith}
use Rattle.std.proofs.lemmas.List.{length-set, get_or-set_same, get_or-set_other}
use Rattle.std.proofs.lemmas.List.Sums.{sum_by-set, get_or-le-sum_by}
use native.Mathlib.Decide.{ℕ_discrete}
use mathlib.Core.Logic.{dite}
use Rattle.mark_core.specs.declared.event.Hand.{Hand}
use Rattle.mark_core.specs.Bits.{times}
use Rattle.mark_core.specs.Machine.{Worker, idle, worker_at, with_queue, with_log, with_hand, enqueued, logged}
use Rattle.mark_core.specs.Sound.{in_hand, places_at, places}
use Rattle.mark_core.proofs.Counts.{times_push, one_if}

-- at each, the count of the changed worker's part takes the place of the old one's
module _ (n : ℕ) (ws : List Worker) (w : ℕ) (there : w < length ws) where
  -- another queue
  pub places-with_queue : (q : List ℕ)
      → places n (with_queue ws w q) + times n (worker_at ws w).queue ≡ places n ws + times n q
  places-with_queue q =
      let e = sum_by-set (places_at n) ws w (record (worker_at ws w) { queue = q }) idle there in
      omega arith

  -- another log
  pub places-with_log : (l : List ℕ)
      → places n (with_log ws w l) + times n (worker_at ws w).log ≡ places n ws + times n l
  places-with_log l =
      let e = sum_by-set (places_at n) ws w (record (worker_at ws w) { log = l }) idle there in
      omega arith

  -- another hand
  pub places-with_hand : (h : Option Hand)
      → places n (with_hand ws w h) + in_hand n (worker_at ws w).hand ≡ places n ws + in_hand n h
  places-with_hand h =
      let e = sum_by-set (places_at n) ws w (record (worker_at ws w) { hand = h }) idle there in
      omega arith

  -- a node more in a queue
  pub places-enqueued : (x : ℕ) → places n (enqueued ws w x) ≡ places n ws + one_if x n
  places-enqueued x =
      let e = places-with_queue ((worker_at ws w).queue ++ x ∷ []) in
      let p = times_push n (worker_at ws w).queue x in
      omega arith

  -- a node more in a log
  pub places-logged : (x : ℕ) → places n (logged ws w x) ≡ places n ws + one_if x n
  places-logged x =
      let e = places-with_log ((worker_at ws w).log ++ x ∷ []) in
      let p = times_push n (worker_at ws w).log x in
      omega arith

  -- one worker has no more than all
  pub places_at-le : places_at n (worker_at ws w) ≤ places n ws
  places_at-le = get_or-le-sum_by (places_at n) ws w idle there

-- what a change leaves at the changed worker
module _ (ws : List Worker) (w : ℕ) (there : w < length ws) where
  -- another queue leaves each hand
  pub hand-with_queue : (q : List ℕ) (v : ℕ)
      → (worker_at (with_queue ws w q) v).hand ≡ (worker_at ws v).hand
  hand-with_queue q v =
      let new : Worker = record (worker_at ws w) { queue = q } in
      dite (ℕ_discrete v w)
      (λ (same : v ≡ w).
      ap (λ i. (worker_at (set ws w new) i).hand) same
      ∙ ap (λ (x : Worker). x.hand) (get_or-set_same ws w new idle there)
      ∙ ap (λ i. (worker_at ws i).hand) (sym same))
      (λ (other : v ≢ w). ap (λ (x : Worker). x.hand) (get_or-set_other ws w v new idle other))

  -- another log leaves the hand
  pub hand-with_log : (l : List ℕ) → (worker_at (with_log ws w l) w).hand ≡ (worker_at ws w).hand
  hand-with_log l =
      ap (λ (x : Worker). x.hand)
      (get_or-set_same ws w (record (worker_at ws w) { log = l }) idle there)

-- no worker is lost
pub length-with_queue : (ws : List Worker) (w : ℕ) (q : List ℕ)
    → length (with_queue ws w q) ≡ length ws
length-with_queue ws w q = length-set ws w (record (worker_at ws w) { queue = q })

-- no worker is lost
pub length-with_log : (ws : List Worker) (w : ℕ) (l : List ℕ) → length (with_log ws w l) ≡ length ws
length-with_log ws w l = length-set ws w (record (worker_at ws w) { log = l })
