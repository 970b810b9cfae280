-- The workers of a marking, apart.
use Rattle.std.proofs.Common.{◌≡◌, ℕ, ◌<◌, ◌≤◌, List, [], ◌∷◌, length, get_or, map, refl, sym, ap, ◌∙◌, subst, arith}
use Rattle.std.specs.Prelude.{All, Some}
use Rattle.std.specs.Arc.{arc_value}
use Rattle.std.proofs.lemmas.List.{length-map, get_or-map, get_or_default, ext_get_or}
use Rattle.std.proofs.lemmas.List.Sums.{get_or-le-sum_by}
use Rattle.std.proofs.lemmas.List.Elements.{All-weaker, All-map}
use Rattle.crossbeam_deque.specs.Handles.{worker_deque, stealer_deque}
use Rattle.mark_core.specs.declared.graph.Graph.{Graph}
use Rattle.mark_core.specs.Bits.{times}
use Rattle.mark_core.specs.Reach.{targets}
use Rattle.steal_mark.specs.declared.shared.claims.Claims.{Claims}
use Rattle.steal_mark.specs.declared.start.roots.Rest.{Rest}
use Rattle.steal_mark.specs.declared.turn.marker.Marker.{Marker}
use Rattle.steal_mark.specs.declared.turn.thief_pass.ThiefPass.{ThiefPass}
use Rattle.steal_mark.specs.Stealing.{IsOther, IsPlaced, parts_of}
use Rattle.steal_mark.specs.Closing.{Id, IsRow, AreRows, IsOpen, Balanced, ids_of, listing}
use Rattle.steal_mark.specs.Working.{IsSeated, Keeps, Saw, claims_of, graph_of, scans_of}
use Rattle.steal_mark.specs.Team.{IsRest, IsOne, IsTeam, IsWilling, Joined, Apart}
use Rattle.steal_mark.specs.Parts.{Deque, NodeList, PassRow}
use Rattle.steal_mark.proofs.TakenApart.{deque_of, others_of, list_of, ones, pushed_all, listed_all}

module _ (g : Graph) (r : Rest) (ms : List Marker) (w : Claims) (rest : IsRest g r) (team : IsTeam r ms) (willing : All IsWilling ms) (many : length ms ≡ r.workers) (j : Joined ms r.seat.me.0 w) where
  -- none was refused, so each is seated
  seated : All IsSeated ms
  seated k d h = (team.sound k d h).seated (willing k d h)

  -- none was refused, so each keeps its promise
  keeps : All Keeps ms
  keeps k d h = (team.sound k d h).keeps (willing k d h)

  -- each worker's graph is that of the marking
  graph : (m : Marker) → IsOne (arc_value r.claim_table) team.ids m → graph_of m ≡ g
  graph m o = ap (λ b. b.shared.key) o.claim_table ∙ rest.graph

  -- each worker has a pass on each deque
  row_long : (m : Marker) → IsOne (arc_value r.claim_table) team.ids m → length m.others.items ≡ length ms
  row_long m o = let a = ap length o.order in let b = length-map m.others.items (λ (x : ThiefPass). stealer_deque x.stealer) in let c = team.workers in omega arith

  -- a list of equal places is the same
  by_place : (xs ys : List Id) → length xs ≡ length ys → ((k : ℕ) (d : Id) → k < length xs → get_or xs k d ≡ get_or ys k d) → xs ≡ ys
  by_place [] [] e h = refl
  by_place [] (y ∷ ys) e h = absurd (omega arith)
  by_place (x ∷ xs) (y ∷ ys) e h = ext_get_or x (x ∷ xs) (y ∷ ys) e (λ k i. h k x i)
  by_place (x ∷ xs) [] e h = absurd (omega arith)

  -- a list that is not empty has a first
  first_of : (xs : List Marker) → 0 < length xs → Marker
  first_of [] h = absurd (omega arith)
  first_of (x ∷ xs) h = x

  -- the worker at k owns deque k
  same_id : (k : ℕ) (d : Id) → k < length (ids_of (map deque_of ms)) → get_or (ids_of (map deque_of ms)) k d ≡ get_or team.ids k d
  same_id k d h =
      let l1 = length-map ms deque_of in let l2 = length-map (map deque_of ms) (λ (x : Deque). worker_deque x) in
      let w' = team.workers in
      let inside : k < length ms = omega arith in
      let m0 : Marker = first_of ms (omega arith) in
      let m : Marker = get_or ms k m0 in
      let a : get_or (ids_of (map deque_of ms)) k d ≡ worker_deque (get_or (map deque_of ms) k (deque_of m0)) = get_or-map (λ (x : Deque). worker_deque x) (map deque_of ms) k (deque_of m0) d (omega arith) in
      let b : get_or (map deque_of ms) k (deque_of m0) ≡ m.deque = get_or-map deque_of ms k m0 (deque_of m0) inside in
      let o : IsOne (arc_value r.claim_table) team.ids m = team.each k m0 inside in
      let n : m.number ≡ k = team.order many k m0 inside in
      a ∙ ap (λ (x : Deque). worker_deque x) b ∙ o.deque ∙ ap (λ i. get_or team.ids i (worker_deque m.deque)) n ∙ get_or_default team.ids k (worker_deque m.deque) d (omega arith)

  -- the workers' deques are all deques, in order
  same_ids : ids_of (map deque_of ms) ≡ team.ids
  same_ids =
      let l1 = length-map ms deque_of in let l2 = length-map (map deque_of ms) (λ (d : Deque). worker_deque d) in
      let w' = team.workers in
      by_place (ids_of (map deque_of ms)) team.ids (omega arith) same_id

  -- each deque is open
  deque_open : (m : Marker) → IsSeated m → IsOne (arc_value r.claim_table) team.ids m → IsOpen g (length (map others_of ms)) m.deque
  deque_open m s o =
      let l = length-map ms others_of in let w' = row_long m o in record {
        fifo = s.fifo;
        graph = s.graph ∙ ap (λ x. Some x) (graph m o);
        parts = let a = s.parts in omega arith;
        part = let a = s.parts in let b = s.fewer in omega arith;
      }

  -- each row is that of its worker
  rows_are : AreRows g (ids_of (map deque_of ms)) (map others_of ms)
  rows_are k d h =
      let l = length-map ms others_of in
      let inside : k < length ms = omega arith in
      let m0 : Marker = first_of ms (omega arith) in
      let m : Marker = get_or ms k m0 in
      let o : IsOne (arc_value r.claim_table) team.ids m = team.each k m0 inside in
      let s : IsSeated m = seated k m0 inside in
      let is : get_or (map others_of ms) k d ≡ m.others = get_or-map others_of ms k m0 d inside in
      let n : m.number ≡ k = team.order many k m0 inside in
      subst (IsRow g (ids_of (map deque_of ms)) k) (sym is) (record {
        others = subst (λ x. All (IsOther x) m.others.items) (graph m o) s.others;
        order = o.order ∙ sym same_ids;
        places = subst (λ x. IsPlaced x (parts_of m.others.items)) n s.places;
      })

  -- the joined seat saw what each saw
  seen_all : (m : Marker) → Saw (graph_of m) (claims_of m).seen (scans_of m) → IsOne (arc_value r.claim_table) team.ids m → ((t : ℕ) → times t (claims_of m).seen ≤ times t w.seen) → Saw g w.seen (scans_of m)
  seen_all m s o less = subst (λ x. Saw x w.seen (scans_of m)) (graph m o)
      (All-weaker _ _ (λ n h. All-weaker (λ t. 0 < times t (claims_of m).seen) (λ t. 0 < times t w.seen) (λ t p. let e = less t in omega arith) (targets (graph_of m) n) h) (scans_of m) s)

  -- each target of what is listed was seen
  saw : All (Saw g w.seen) (listing (map list_of ms))
  saw k d h =
      let l1 = length-map ms list_of in let l2 = length-map (map list_of ms) (λ (x : NodeList). x.items) in
      let inside : k < length ms = omega arith in
      let m0 : Marker = first_of ms (omega arith) in
      let m : Marker = get_or ms k m0 in
      let a : get_or (listing (map list_of ms)) k d ≡ (get_or (map list_of ms) k (list_of m0)).items = get_or-map (λ (x : NodeList). x.items) (map list_of ms) k (list_of m0) d (omega arith) in
      let b : get_or (map list_of ms) k (list_of m0) ≡ m.scanned = get_or-map list_of ms k m0 (list_of m0) inside in
      subst (Saw g w.seen) (sym (a ∙ ap (λ (x : NodeList). x.items) b))
      (seen_all m (keeps k m0 inside).saw (team.each k m0 inside) (λ t. let e = j.seen t in let f = get_or-le-sum_by (λ (x : Marker). times t (claims_of x).seen) ms k m0 inside in omega arith))

  -- the equation holds while no deque is closed
  pub balanced : Balanced g (map deque_of ms) (map others_of ms) (map list_of ms) w
  balanced =
      let l1 = length-map ms deque_of in let l2 = length-map ms others_of in let l3 = length-map ms list_of in record {
        parts = let a = j.parts in let b = rest.parts in let c = ones (λ m. (claims_of m).parts) ms (λ k d h. (seated k d h).part) in omega arith;
        deques_open = All-map (IsOpen g (length (map others_of ms))) deque_of ms (λ k d h. deque_open (get_or ms k d) (seated k d h) (team.each k d h));
        passes = rows_are;
        room = omega arith;
        owned = omega arith;
        counts = λ n. let a = pushed_all n ms keeps in let b = listed_all n ms keeps in let c = j.claimed n in let d = rest.claimed n in omega arith;
        backed = λ n. let a = pushed_all n ms keeps in let c = j.claimed n in omega arith;
        saw = saw;
        roots = All-weaker (λ t. 0 < times t r.seat.me.0.seen) (λ t. 0 < times t w.seen) (λ t h. let a = j.seen t in omega arith) g.roots.items rest.roots;
      }

-- the same, of what was taken apart
pub balanced_apart : (g : Graph) (r : Rest) (ms : List Marker) (ds : List Deque) (rows : List PassRow) (lists : List NodeList) (w : Claims) → IsRest g r → IsTeam r ms → All IsWilling ms → length ms ≡ r.workers
    → Apart ms ds rows lists r.seat.me.0 w → Balanced g ds rows lists w
balanced_apart g r ms ds rows lists w rest team willing many a =
    subst (λ x. Balanced g x rows lists w) (sym a.deques_are) (subst (λ x. Balanced g (map deque_of ms) x lists w) (sym a.rows_are)
    (subst (λ x. Balanced g (map deque_of ms) (map others_of ms) x w) (sym a.lists_are) (balanced g r ms w rest team willing many a.joined)))
