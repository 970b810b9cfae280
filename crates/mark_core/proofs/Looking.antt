-- A look claims the target of an edge of a reached node.
use Rattle.std.proofs.Common.{◌≡◌, ℕ, ◌+◌, ◌<◌, ◌≤◌, List, [], ◌∷◌, ◌++◌, Option, Some, None, length, get_or, take, sym, ap, ◌∙◌, subst, arith}
use Rattle.std.specs.Prelude.{All, Contains, if◌then◌else◌}
use Rattle.std.proofs.lemmas.List.{take_more}
use Rattle.std.proofs.lemmas.List.Elements.{All-append, All-cons, All-nil, Contains-get_or}
use Rattle.std.proofs.lemmas.Option.{get_or_from_slice_get}
use Rattle.mark_core.specs.declared.graph.Graph.{Graph}
use Rattle.mark_core.specs.declared.event.Hand.{Hand}
use Rattle.mark_core.specs.Bits.{times}
use Rattle.mark_core.specs.Claims.{is_in, claim}
use Rattle.mark_core.specs.Reach.{targets, Reached}
use Rattle.mark_core.specs.Machine.{Machine, worker_at, with_hand, Looks}
use Rattle.mark_core.specs.Sound.{places}
use Rattle.mark_core.proofs.Counts.{times-cons, one_if_same}
use Rattle.mark_core.proofs.ClaimLemmas.{Claimed, times-claim, claim_there, claim_once, claim_all_of}
use Rattle.mark_core.proofs.Walks.{Reached-target, within_get}
use Rattle.mark_core.proofs.Workers.{places-with_hand}
use Rattle.mark_core.proofs.Keeping.{Saw, Keeps, claimed_more, all_saw_more, saw_hand, saw-with_hand, hand_places, there_reached}

module _ (g : Graph) (old : Machine) (w t : ℕ) (new : Machine) (k : Keeps g old)
    (s : Looks g old w t new) where
  -- the edges of the hand's node
  abbrev edges : List ℕ
  edges = targets g s.hand.node

  -- what is claimed afterwards
  abbrev more : List ℕ
  more = claim old.claimed t

  -- what waits afterwards
  abbrev waits : Option ℕ
  waits = if is_in t old.claimed then None else Some t

  -- the hand afterwards
  abbrev hand : Hand
  hand = record { node = s.hand.node; looked = s.hand.looked + 1; waits = waits }

  -- an edge that is there is within the list
  inside : s.hand.looked < length edges
  inside = within_get edges s.hand.looked t s.next

  -- it is the target
  at : get_or edges s.hand.looked 0 ≡ t
  at = get_or_from_slice_get edges s.hand.looked t 0 s.next

  -- the node in the hand is reached, so its target is
  target_reached : Reached g t
  target_reached =
      let h = hand_places s.hand.node (worker_at old.workers w).hand s.hand None s.holds s.free in
      let o = times-cons s.hand.node s.hand.node [] in
      let p = one_if_same s.hand.node in
      let node : Reached g s.hand.node =
      there_reached g old w s.hand.node k.sound s.there (omega arith) in
      Reached-target g s.hand.node t node
      (subst (Contains edges) at (Contains-get_or edges s.hand.looked 0 inside))

  -- what waits afterwards is what was claimed
  look_once : (n : ℕ) → places n new.workers ≡ times n new.claimed
  look_once n =
      let a : places n new.workers ≡ places n (with_hand old.workers w (Some hand)) =
      ap (places n) s.counts in
      let b = places-with_hand n old.workers w s.there (Some hand) in
      let c : times n new.claimed ≡ times n more = ap (times n) s.claims in
      let d = times-claim n t old.claimed in
      let e = hand_places n (worker_at old.workers w).hand s.hand None s.holds s.free in
      let f = k.sound.once n in
      omega arith

  -- one more edge was looked at, and its target is claimed
  looked : Claimed more (take (s.hand.looked + 1) edges)
  looked =
      let P : ℕ → Type 0 = λ n. 0 < times n more in
      let before : Claimed more (take s.hand.looked edges) =
      claimed_more g old.claimed t (take s.hand.looked edges)
      (saw_hand g old.claimed old.workers w s.there k.saw s.hand s.holds) in
      subst (Claimed more)
      (sym (take_more edges s.hand.looked 0 inside
      ∙ ap (λ x. take s.hand.looked edges ++ x ∷ []) at))
      (All-append P (take s.hand.looked edges) (t ∷ []) before
      (All-cons P t [] (claim_there t old.claimed) (All-nil P)))

  -- so each worker has claimed what it looked at, this one one edge more
  look_saw : All (Saw g more) new.workers
  look_saw =
      subst (All (Saw g more)) (sym s.counts)
      (saw-with_hand g more old.workers w s.there
      (all_saw_more g old.claimed t old.workers k.saw) (Some hand) looked)

  -- the target is reached and claimed once; the rest is as before
  pub looks_keeps : Keeps g new
  looks_keeps = record {
    sound = record {
      reached = subst (All (Reached g)) (sym s.claims)
          (claim_all_of (Reached g) t old.claimed k.sound.reached target_reached);
      distinct = λ n. subst (λ l. times n l ≤ 1) (sym s.claims)
          (claim_once t old.claimed k.sound.distinct n);
      once = look_once;
    };
    roots = subst (λ l. Claimed l g.roots.items) (sym s.claims)
        (claimed_more g old.claimed t g.roots.items k.roots);
    saw = subst (λ l. All (Saw g l) new.workers) (sym s.claims) look_saw;
  }
