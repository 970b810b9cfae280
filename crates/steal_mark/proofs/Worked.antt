-- A worker between its turns.
use Rattle.std.proofs.Common.{◌≡◌, ℕ, ◌+◌, ◌/◌, ◌<◌, List, [], ◌∷◌, ◌++◌, length, map, set, false, sym, ap, ◌∙◌, subst, ⊎_elim, arith}
use Rattle.std.specs.Prelude.{All, Contains, sum_by, Some}
use Rattle.std.specs.Arc.{arc_value}
use Rattle.std.proofs.lemmas.List.{length-map}
use Rattle.std.proofs.lemmas.List.Elements.{All-append, All-weaker, All-cons, All-nil, All-contains_itself}
use Rattle.crossbeam_deque.specs.Handles.{worker_flavor}
use Rattle.mark_core.specs.Bits.{times}
use Rattle.mark_core.specs.declared.graph.Graph.{Graph}
use Rattle.mark_core.specs.Reach.{targets, node_count, Reached, IsInRange}
use Rattle.mark_core.proofs.Walks.{Reached-target, reached_in_range}
use Rattle.std.proofs.lemmas.List.Elements.{Contains-get_or}
use Rattle.std.specs.Prelude.{Result, Ok, Err, OnOk}
use Rattle.std.specs.Result.{is_err}
use Rattle.std.proofs.Common.{true≢false, get_or}
use Rattle.steal_mark.specs.Growing.{MayClaim}
use Rattle.mark_core.proofs.Counts.{times-append, times_push, one_if, counted}
use Rattle.atomic_table.specs.declared.shared.Seat.{Seat}
use Rattle.steal_mark.specs.declared.shared.deques.PassView.{PassView}
use Rattle.steal_mark.specs.declared.shared.claims.Claims.{Claims}
use Rattle.steal_mark.specs.declared.turn.marker.Marker.{Marker}
use Rattle.steal_mark.specs.Growing.{Grows}
use Rattle.steal_mark.specs.Stealing.{IsOther, IsPlaced, parts_of, took, TookOne}
use Rattle.steal_mark.specs.Working.{graph_of, claims_of, own_pass_view, passes_of, scans_of, taken_by, Saw, IsSeated, Keeps, IsSound, Scans}
use Rattle.steal_mark.proofs.Sums.{sum_set}

module _ (old new : Marker) (number : new.number ≡ old.number) (places : parts_of new.others.items ≡ parts_of old.others.items) (claim_table : arc_value new.claim_table ≡ arc_value old.claim_table) (table : new.seat.table_id ≡ old.seat.table_id) (light : new.seat.me.1 ≡ old.seat.me.1)
    (fifo : worker_flavor new.deque ≡ worker_flavor old.deque) (stealers : map (λ o. o.stealer) new.others.items ≡ map (λ o. o.stealer) old.others.items) where
  -- the words are the same, and so is the graph
  same_graph : graph_of new ≡ graph_of old
  same_graph = ap (λ b. b.shared.key) claim_table

  -- the passes are as many as before
  as_many : length new.others.items ≡ length old.others.items
  as_many = let a = length-map new.others.items (λ o. o.stealer) in let b = length-map old.others.items (λ o. o.stealer) in let e = ap length stealers in omega arith

  -- it stays seated
  pub seated_after : (claims_of new).parts ≡ (claims_of old).parts → (own_pass_view new).graph ≡ (own_pass_view old).graph → (own_pass_view new).parts ≡ (own_pass_view old).parts → All (IsOther (graph_of old)) new.others.items → IsSeated old → IsSeated new
  seated_after part graph parts others s = record {
    claim_table = table ∙ s.claim_table ∙ ap (λ b. b.shared.table_id) (sym claim_table);
    wide = ap (λ b. b.shared.table_id.words) claim_table ∙ s.wide ∙ ap (λ g. node_count g / 64 + 1) (sym same_graph);
    part = part ∙ s.part;
    light = light ∙ s.light;
    fifo = fifo ∙ s.fifo;
    graph = graph ∙ s.graph ∙ ap (λ g. Some g) (sym same_graph);
    parts = let a = as_many in let b = s.parts in omega arith;
    fewer = let a = as_many in let b = s.fewer in omega arith;
    inside = let a = as_many in let b = s.inside in omega arith;
    places = subst (λ n. IsPlaced n (parts_of new.others.items)) (sym number) (subst (IsPlaced old.number) (sym places) s.places);
    others = subst (λ g. All (IsOther g) new.others.items) (sym same_graph) others;
  }

-- the same seen nodes and the same list
saw_like : (g g' : Graph) (seen seen' nodes nodes' : List ℕ) → g' ≡ g → seen' ≡ seen → nodes' ≡ nodes → Saw g seen nodes → Saw g' seen' nodes'
saw_like g g' seen seen' nodes nodes' a b c h = subst (λ x. Saw x seen' nodes') (sym a) (subst (λ x. Saw g x nodes') (sym b) (subst (λ x. Saw g seen x) (sym c) h))

-- with the same seat, hands and scans
pub sound_like : (old new : Marker) → new.number ≡ old.number → parts_of new.others.items ≡ parts_of old.others.items → arc_value new.claim_table ≡ arc_value old.claim_table → new.seat ≡ old.seat → worker_flavor new.deque ≡ worker_flavor old.deque → map (λ o. o.stealer) new.others.items ≡ map (λ o. o.stealer) old.others.items
    → own_pass_view new ≡ own_pass_view old → passes_of new ≡ passes_of old → scans_of new ≡ scans_of old → All (IsOther (graph_of old)) new.others.items → new.refused ≡ old.refused → IsSound old → IsSound new
sound_like old new number places claim_table seat fifo stealers own passes scans others refused s =
    let claims : claims_of new ≡ claims_of old = ap (λ x. x.me.0) seat in
    record {
      seated = λ r. seated_after old new number places claim_table (ap (λ x. x.table_id) seat) (ap (λ x. x.me.1) seat) fifo stealers (ap (λ (x : Claims). x.parts) claims) (ap (λ (x : PassView). x.graph) own) (ap (λ (x : PassView). x.parts) own) others (s.seated (sym refused ∙ r));
      keeps = λ r. let k = s.keeps (sym refused ∙ r) in record {
        scanned = λ n. ap (times n) scans ∙ k.scanned n ∙ sym (λ i. times n (own i).taken + sum_by (λ (h : PassView). times n h.taken) (passes i));
        saw = saw_like (graph_of old) (graph_of new) (claims_of old).seen (claims_of new).seen (scans_of old) (scans_of new) (ap (λ b. b.shared.key) claim_table) (ap (λ (x : Claims). x.seen) claims) scans k.saw;
        pushed = λ n. ap (λ (x : PassView). times n x.pushed) own ∙ k.pushed n ∙ sym (ap (λ (x : Claims). times n x.claimed) claims);
      };
    }

-- what a scan adds
module _ (n : ℕ) (old new : Marker) (graph : graph_of new ≡ graph_of old) (k : Keeps old) (s : Scans n old new) where
  -- a scan takes nothing
  own_taken : (own_pass_view new).taken ≡ s.mid.taken
  own_taken = ap (λ (x : PassView). x.taken) s.grows.deque

  -- a take pushes nothing
  pub mid_pushed : s.mid.pushed ≡ (own_pass_view old).pushed
  mid_pushed = ⊎_elim (λ x. ap (λ (h : PassView). h.pushed) x.0) (λ x. ap (λ (h : PassView). h.pushed) x.0) s.taken

  -- one node more was taken, from one deque
  more_taken : (x : ℕ) → taken_by x new ≡ taken_by x old + one_if n x
  more_taken x =
      let own : times x (own_pass_view new).taken ≡ times x s.mid.taken = ap (times x) own_taken in
      ⊎_elim
      (λ (a : (s.mid ≡ took n (own_pass_view old)) × (passes_of new ≡ passes_of old)).
      let p : times x s.mid.taken ≡ times x ((own_pass_view old).taken ++ n ∷ []) = ap (λ (h : PassView). times x h.taken) a.0 in
      let q = times_push x (own_pass_view old).taken n in
      let r : sum_by (λ (h : PassView). times x h.taken) (passes_of new) ≡ sum_by (λ (h : PassView). times x h.taken) (passes_of old) = ap (λ l. sum_by (λ (h : PassView). times x h.taken) l) a.1 in
      omega arith)
      (λ (a : (s.mid ≡ own_pass_view old) × TookOne n (passes_of old) (passes_of new)).
      let p : times x s.mid.taken ≡ times x (own_pass_view old).taken = ap (λ (h : PassView). times x h.taken) a.0 in
      let v : PassView = a.1.1 in
      let q = sum_set (λ (h : PassView). times x h.taken) (passes_of old) a.1.0 v (took n v) a.1.2 in
      let t = times_push x v.taken n in
      let r : sum_by (λ (h : PassView). times x h.taken) (passes_of new) ≡ sum_by (λ (h : PassView). times x h.taken) (set (passes_of old) a.1.0 (took n v)) = ap (λ l. sum_by (λ (h : PassView). times x h.taken) l) a.1.3 in
      omega arith)
      s.taken

  -- the targets are seen
  seen_is : (claims_of new).seen ≡ (claims_of old).seen ++ targets (graph_of old) n
  seen_is = ap (λ (x : Claims). x.seen) s.grows.seat

  -- each target of each scanned node was seen
  saw_all : All (λ m. All (λ t. 0 < times t ((claims_of old).seen ++ targets (graph_of old) n)) (targets (graph_of old) m)) (scans_of old ++ n ∷ [])
  saw_all =
      let P : ℕ → Type 0 = λ m. All (λ t. 0 < times t ((claims_of old).seen ++ targets (graph_of old) n)) (targets (graph_of old) m) in
      All-append P (scans_of old) (n ∷ [])
      (All-weaker _ P (λ m h. All-weaker (λ t. 0 < times t (claims_of old).seen) (λ t. 0 < times t ((claims_of old).seen ++ targets (graph_of old) n)) (λ t h'. let e = times-append t (claims_of old).seen (targets (graph_of old) n) in omega arith) (targets (graph_of old) m) h) (scans_of old) k.saw)
      (All-cons P n [] (All-weaker (Contains (targets (graph_of old) n)) (λ t. 0 < times t ((claims_of old).seen ++ targets (graph_of old) n)) (λ t c. let e = times-append t (claims_of old).seen (targets (graph_of old) n) in let h = counted t (targets (graph_of old) n) c in omega arith) (targets (graph_of old) n) (All-contains_itself (targets (graph_of old) n))) (All-nil P))

  -- it keeps its promise after a scan
  pub keeps_after : Keeps new
  keeps_after = record {
    scanned = λ x. let a = more_taken x in let b = k.scanned x in let c = times_push x (scans_of old) n in let d = ap (times x) s.noted in omega arith;
    saw = saw_like (graph_of old) (graph_of new) ((claims_of old).seen ++ targets (graph_of old) n) (claims_of new).seen (scans_of old ++ n ∷ []) (scans_of new) graph seen_is s.noted saw_all;
    pushed = λ x.
        let a : times x (own_pass_view new).pushed ≡ times x (s.mid.pushed ++ s.grows.more) = ap (λ (h : PassView). times x h.pushed) s.grows.deque in
        let b : times x (claims_of new).claimed ≡ times x ((claims_of old).claimed ++ s.grows.more) = ap (λ (v : Claims). times x v.claimed) s.grows.seat in
        let c = times-append x s.mid.pushed s.grows.more in let d = times-append x (claims_of old).claimed s.grows.more in
        let e : times x s.mid.pushed ≡ times x (own_pass_view old).pushed = ap (times x) mid_pushed in
        let f = k.pushed x in
        omega arith;
  }

-- a reached node's targets may be claimed
pub may_claim : (g : Graph) (n : ℕ) → IsInRange g → Reached g n → MayClaim g (targets g n)
may_claim g n range here k d h =
    let r : Reached g (get_or (targets g n) k d) = Reached-target g n (get_or (targets g n) k d) here (Contains-get_or (targets g n) k d h) in
    (r, reached_in_range g (get_or (targets g n) k d) range r)

-- the fact of a success
pub ok_fact : {X E : Type 0} (r : Result X E) (P : Type 0) → is_err r ≡ false → OnOk r P → P
ok_fact (Ok x) P e h = h
ok_fact (Err x) P e h = absurd (true≢false e)

-- with the same words the graph is the same
pub graph_kept : (old new : Marker) → arc_value new.claim_table ≡ arc_value old.claim_table → graph_of new ≡ graph_of old
graph_kept old new e = ap (λ b. b.shared.key) e

-- what the seat is, in what a scan grows from
pub grows_from : (ts : List ℕ) (s s' : Seat (Unit {0}) Claims) (w : Claims) (a b : PassView) → s' ≡ s → Grows ts s'.me.0 w a b → Grows ts s.me.0 w a b
grows_from ts s s' w a b e h = subst (λ (x : Seat (Unit {0}) Claims). Grows ts x.me.0 w a b) e h

-- after a scan
pub sound_scanned : (n : ℕ) (old new : Marker) → new.number ≡ old.number → parts_of new.others.items ≡ parts_of old.others.items → arc_value new.claim_table ≡ arc_value old.claim_table → new.seat.table_id ≡ old.seat.table_id → new.seat.me.1 ≡ old.seat.me.1 → worker_flavor new.deque ≡ worker_flavor old.deque
    → map (λ o. o.stealer) new.others.items ≡ map (λ o. o.stealer) old.others.items → All (IsOther (graph_of old)) new.others.items → new.refused ≡ old.refused → Scans n old new → IsSound old → IsSound new
sound_scanned n old new number places claim_table table light fifo stealers others refused s h =
    let mid_parts : s.mid.parts ≡ (own_pass_view old).parts = ⊎_elim (λ x. ap (λ (h : PassView). h.parts) x.0) (λ x. ap (λ (h : PassView). h.parts) x.0) s.taken in
    let mid_graph : s.mid.graph ≡ (own_pass_view old).graph = ⊎_elim (λ x. ap (λ (h : PassView). h.graph) x.0) (λ x. ap (λ (h : PassView). h.graph) x.0) s.taken in
    record {
      seated = λ r. seated_after old new number places claim_table table light fifo stealers (ap (λ (x : Claims). x.parts) s.grows.seat) (ap (λ (x : PassView). x.graph) s.grows.deque ∙ mid_graph) (ap (λ (x : PassView). x.parts) s.grows.deque ∙ mid_parts) others (h.seated (sym refused ∙ r));
      keeps = λ r. keeps_after n old new (graph_kept old new claim_table) (h.keeps (sym refused ∙ r)) s;
    }
