-- A put, a take and a finish move a node from place to place, and claim nothing.
use Rattle.std.proofs.Common.{◌≡◌, ℕ, ◌<◌, ◌≤◌, List, [], ◌∷◌, ◌++◌, Some, None, length, sym, ap, ◌∙◌, subst, arith}
use Rattle.std.specs.Prelude.{All}
use Rattle.std.proofs.lemmas.List.{take_all}
use Rattle.std.proofs.lemmas.List.Elements.{All-nil}
use Rattle.mark_core.specs.declared.graph.Graph.{Graph}
use Rattle.mark_core.specs.declared.event.Hand.{Hand}
use Rattle.mark_core.specs.Bits.{times}
use Rattle.mark_core.specs.Reach.{targets, Reached}
use Rattle.mark_core.specs.Machine.{Machine, Worker, worker_at, with_queue, with_hand, enqueued, logged, Puts, Takes, Finishes}
use Rattle.mark_core.specs.Sound.{in_hand, places}
use Rattle.mark_core.proofs.Counts.{times-cons}
use Rattle.mark_core.proofs.ClaimLemmas.{Claimed}
use Rattle.mark_core.proofs.Workers.{places-with_queue, places-with_hand, places-enqueued, places-logged, hand-with_queue, hand-with_log, length-with_queue, length-with_log}
use Rattle.mark_core.proofs.Keeping.{Saw, Keeps, saw_hand, saw-with_queue, saw-with_hand, saw-logged, hand_places}

-- a change that claims nothing, moves nodes only from place to place, and looks at nothing
-- keeps a state sound
moved_keeps : (g : Graph) (old new : Machine) → Keeps g old → new.claimed ≡ old.claimed
    → ((n : ℕ) → places n new.workers ≡ places n old.workers)
    → All (Saw g old.claimed) new.workers → Keeps g new
moved_keeps g old new k claims moves saw = record {
  sound = record {
    reached = subst (All (Reached g)) (sym claims) k.sound.reached;
    distinct = λ n. subst (λ l. times n l ≤ 1) (sym claims) (k.sound.distinct n);
    once = λ n. moves n ∙ k.sound.once n ∙ ap (times n) (sym claims);
  };
  roots = subst (λ l. Claimed l g.roots.items) (sym claims) k.roots;
  saw = subst (λ l. All (Saw g l) new.workers) (sym claims) saw;
}

-- ---- a put: from the hand to the queue
module _ (g : Graph) (old : Machine) (w : ℕ) (new : Machine) (k : Keeps g old)
    (s : Puts old w new) where
  -- the queue afterwards
  abbrev put_queue : List ℕ
  put_queue = (worker_at old.workers w).queue ++ s.target ∷ []

  -- the hand afterwards
  abbrev put_hand : Hand
  put_hand = record { node = s.hand.node; looked = s.hand.looked; waits = None }

  -- no worker is lost
  put_there : w < length (enqueued old.workers w s.target)
  put_there = let l = length-with_queue old.workers w put_queue in let h = s.there in omega arith

  -- the target leaves the hand and enters the queue
  put_places : (n : ℕ) → places n new.workers ≡ places n old.workers
  put_places n =
      let mid : List Worker = enqueued old.workers w s.target in
      let a : places n new.workers ≡ places n (with_hand mid w (Some put_hand)) =
      ap (places n) s.puts in
      let b = places-with_hand n mid w put_there (Some put_hand) in
      let holds : (worker_at mid w).hand ≡ Some s.hand =
      hand-with_queue old.workers w s.there put_queue w ∙ s.holds in
      let e = hand_places n (worker_at mid w).hand s.hand (Some s.target) holds s.waits in
      let o = times-cons n s.target [] in
      let p = places-enqueued n old.workers w s.there s.target in
      omega arith

  -- nothing is looked at
  put_saw : All (Saw g old.claimed) new.workers
  put_saw =
      let looked = saw_hand g old.claimed old.workers w s.there k.saw s.hand s.holds in
      let queued = saw-with_queue g old.claimed old.workers w s.there k.saw put_queue in
      subst (All (Saw g old.claimed)) (sym s.puts)
      (saw-with_hand g old.claimed (enqueued old.workers w s.target) w put_there queued
      (Some put_hand) looked)

  -- so the state stays sound
  pub puts_keeps : Keeps g new
  puts_keeps = moved_keeps g old new k s.claims put_places put_saw

-- ---- a take: from a queue to the hand
module _ (g : Graph) (old : Machine) (w from : ℕ) (new : Machine) (k : Keeps g old)
    (s : Takes old w from new) where
  -- the queue afterwards
  abbrev rest : List ℕ
  rest = s.front.0

  -- the workers between the two changes
  abbrev took : List Worker
  took = with_queue old.workers from rest

  -- the hand afterwards
  abbrev take_hand : Hand
  take_hand = record { node = s.node; looked = 0; waits = None }

  -- no worker is lost
  take_there : w < length took
  take_there = let l = length-with_queue old.workers from rest in let h = s.there in omega arith

  -- the two changes, one after the other
  takes : new.workers ≡ with_hand took w (Some take_hand)
  takes = s.takes ∙ ap (λ x. with_hand x w (Some take_hand)) s.front.2

  -- the node leaves the queue and enters the hand
  take_places : (n : ℕ) → places n new.workers ≡ places n old.workers
  take_places n =
      let a : places n new.workers ≡ places n (with_hand took w (Some take_hand)) =
      ap (places n) takes in
      let b = places-with_hand n took w take_there (Some take_hand) in
      let none : (worker_at took w).hand ≡ None =
      hand-with_queue old.workers from s.queue_there rest w ∙ s.empty in
      let e : in_hand n (worker_at took w).hand ≡ 0 = ap (in_hand n) none in
      let p = places-with_queue n old.workers from s.queue_there rest in
      let q : times n (worker_at old.workers from).queue ≡ times n (s.node ∷ rest) =
      ap (times n) s.front.1 in
      let x = times-cons n s.node rest in
      let y = times-cons n s.node [] in
      omega arith

  -- nothing is looked at yet
  take_saw : All (Saw g old.claimed) new.workers
  take_saw =
      let queued = saw-with_queue g old.claimed old.workers from s.queue_there k.saw rest in
      subst (All (Saw g old.claimed)) (sym takes)
      (saw-with_hand g old.claimed took w take_there queued (Some take_hand)
      (All-nil (λ t. 0 < times t old.claimed)))

  -- so the state stays sound
  pub takes_keeps : Keeps g new
  takes_keeps = moved_keeps g old new k s.claims take_places take_saw

-- ---- a finish: from the hand to the log
module _ (g : Graph) (old : Machine) (w : ℕ) (new : Machine) (k : Keeps g old)
    (s : Finishes g old w new) where
  -- the log afterwards
  abbrev finish_log : List ℕ
  finish_log = (worker_at old.workers w).log ++ s.hand.node ∷ []

  -- no worker is lost
  finish_there : w < length (logged old.workers w s.hand.node)
  finish_there = let e = length-with_log old.workers w finish_log in let h = s.there in omega arith

  -- the node leaves the hand and enters the log
  finish_places : (n : ℕ) → places n new.workers ≡ places n old.workers
  finish_places n =
      let mid : List Worker = logged old.workers w s.hand.node in
      let a : places n new.workers ≡ places n (with_hand mid w None) = ap (places n) s.notes in
      let b = places-with_hand n mid w finish_there None in
      let holds : (worker_at mid w).hand ≡ Some s.hand =
      hand-with_log old.workers w s.there finish_log ∙ s.holds in
      let e = hand_places n (worker_at mid w).hand s.hand None holds s.free in
      let o = times-cons n s.hand.node [] in
      let p = places-logged n old.workers w s.there s.hand.node in
      omega arith

  -- all edges were looked at
  all_looked : Claimed old.claimed (targets g s.hand.node)
  all_looked =
      let h = s.all in
      subst (Claimed old.claimed) (take_all s.hand.looked (targets g s.hand.node) (omega arith))
      (saw_hand g old.claimed old.workers w s.there k.saw s.hand s.holds)

  -- so the log may have the node
  finish_saw : All (Saw g old.claimed) new.workers
  finish_saw =
      let noted = saw-logged g old.claimed old.workers w s.there k.saw s.hand.node all_looked in
      subst (All (Saw g old.claimed)) (sym s.notes)
      (saw-with_hand g old.claimed (logged old.workers w s.hand.node) w finish_there noted None tt)

  -- so the state stays sound
  pub finishes_keeps : Keeps g new
  finishes_keeps = moved_keeps g old new k s.claims finish_places finish_saw
