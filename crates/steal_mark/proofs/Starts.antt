-- The markers are made, from the last to the first.
use Rattle.std.proofs.Common.{◌≡◌, ℕ, zero, suc, ◌+◌, ◌-◌, ◌/◌, false, ◌<◌, List, [], ◌∷◌, ◌++◌, length, get_or, map, sym, ap, ◌∙◌, subst, append_assoc, arith}
use Rattle.std.specs.Prelude.{All, Some}
use Rattle.std.proofs.lemmas.List.{length-map, length-append, map-append, get_or_append_left}
use Rattle.std.proofs.Math.Seq.{get_or-append_seam}
use lib.Seq.{take-append_seam}
use Rattle.std.specs.Arc.{arc_value}
use Rattle.atomic_table.specs.Table.{Me}
use Rattle.std.proofs.lemmas.List.Sums.{sum_by-cons, sum_by_push}
use Rattle.std.proofs.lemmas.List.Elements.{All-nil, All-take, All-contains, Contains-push}
use Rattle.crossbeam_deque.specs.Handles.{worker_deque, worker_view, stealer_deque}
use Rattle.mark_core.specs.declared.graph.Graph.{Graph}
use Rattle.mark_core.specs.Bits.{times}
use Rattle.mark_core.specs.Reach.{node_count}
use Rattle.steal_mark.specs.declared.turn.marker.Marker.{Marker}
use Rattle.steal_mark.specs.declared.turn.thief_pass.ThiefPass.{ThiefPass}
use Rattle.steal_mark.specs.Stealing.{IsOther}
use Rattle.steal_mark.specs.Working.{IsSeated, Keeps, Saw, graph_of, claims_of, own_pass_view, scans_of}
use Rattle.steal_mark.specs.declared.shared.claims.Claims.{Claims}
use Rattle.steal_mark.specs.Claiming.{claims}
use Rattle.steal_mark.specs.Closing.{Id, ids_of, pushed_in}
use Rattle.steal_mark.specs.Starting.{IsSpread, IsNewRow, IsStarted, Starts, pushed_to}
use Rattle.steal_mark.specs.Parts.{ClaimTable, Deque, PassRow}
use Rattle.steal_mark.proofs.Deals.{times_pushed}

-- which deque a worker owns
abbrev id_of : Marker → Id
id_of m = worker_deque m.deque

-- one marker more
module _ (g : Graph) (b : ClaimTable) (ids : List Id) (v w w' : Claims) (ds : List Deque) (rows : List PassRow) (ms : List Marker) (m : Marker)
    (s : Starts g b ids v w (ds ++ m.deque ∷ []) (rows ++ m.others ∷ []) ms) (key : b.shared.key ≡ g) (wide : b.shared.table_id.words ≡ node_count g / 64 + 1) (whole : v.parts ≡ 1024) (few : length ids < 1024)
    (number : m.number ≡ length ds) (claim_table : arc_value m.claim_table ≡ b) (table : m.seat.table_id ≡ b.shared.table_id) (me : m.seat.me ≡ (claims 1 (worker_view m.deque).pushed w.seen, [])) (none : scans_of m ≡ []) (willing : m.refused ≡ false)
    (is : w' ≡ claims (w.parts - 1) (pushed_to ds) w.seen) where
  -- the lists with the new last element are one longer
  counts : (length (ds ++ m.deque ∷ []) ≡ length ds + 1) × (length (rows ++ m.others ∷ []) ≡ length rows + 1)
  counts = (length-append ds (m.deque ∷ []), length-append rows (m.others ∷ []))

  -- the marker's graph is that of the marking
  graph_is : graph_of m ≡ g
  graph_is = ap (λ (x : ClaimTable). x.shared.key) claim_table ∙ key

  -- its seat has the claims of what was pushed to its deque
  claims_is : claims_of m ≡ claims 1 (worker_view m.deque).pushed w.seen
  claims_is = ap (λ (x : Me (Unit {0}) Claims). x.0) me

  -- its deque is spread
  is_spread : IsSpread g (length ids) m.deque
  is_spread = All-contains (IsSpread g (length ids)) (ds ++ m.deque ∷ []) m.deque s.opened (Contains-push ds m.deque)

  -- its row is new
  new_row : IsNewRow g ids m.number m.others
  new_row =
      let a = counts.0 in let c = counts.1 in let e = s.many in
      let r = s.left (length rows) m.others (omega arith) in
      let same : length rows ≡ m.number = omega arith in
      subst (λ k. IsNewRow g ids k m.others) same (subst (IsNewRow g ids (length rows)) (get_or-append_seam rows m.others [] m.others) r)

  -- its row has a pass on each deque
  row_long : length m.others.items ≡ length ids
  row_long = let a = ap length new_row.row.order in let c = length-map m.others.items (λ (x : ThiefPass). stealer_deque x.stealer) in omega arith

  -- the deques stand in order
  ids_are : ids_of ds ++ worker_deque m.deque ∷ map id_of ms ≡ ids
  ids_are = sym (append_assoc (ids_of ds) (worker_deque m.deque ∷ []) (map id_of ms)) ∙ ap (λ x. x ++ map id_of ms) (sym (map-append (λ (x : Deque). worker_deque x) ds (m.deque ∷ []))) ∙ s.order

  -- its number is that of a deque
  inside : m.number < length ids
  inside = let a = s.total in let c = counts.0 in omega arith

  -- seat, deque and passes are those of the marking
  seated : IsSeated m
  seated = record {
    claim_table = table ∙ ap (λ (x : ClaimTable). x.shared.table_id) (sym claim_table);
    wide = ap (λ (x : ClaimTable). x.shared.table_id.words) claim_table ∙ wide ∙ ap (λ x. node_count x / 64 + 1) (sym graph_is);
    part = ap (λ (x : Claims). x.parts) claims_is;
    light = ap (λ (x : Me (Unit {0}) Claims). x.1) me;
    fifo = is_spread.is_open.fifo;
    graph = is_spread.is_open.graph ∙ ap (λ x. Some x) (sym graph_is);
    parts = let a = is_spread.is_open.parts in let c = row_long in omega arith;
    fewer = let c = row_long in omega arith;
    inside = let a = inside in let c = row_long in omega arith;
    places = new_row.row.places;
    others = subst (λ x. All (IsOther x) m.others.items) (sym graph_is) new_row.row.others;
  }

  -- it scanned and took nothing, and pushed what it claimed
  keeps : Keeps m
  keeps = record {
    scanned = λ n. let a : times n (scans_of m) ≡ 0 = ap (times n) none in let c : times n (own_pass_view m).taken ≡ 0 = ap (times n) is_spread.untaken in let e = new_row.untaken n in omega arith;
    saw = subst (Saw (graph_of m) (claims_of m).seen) (sym none) (All-nil _);
    pushed = λ n. ap (λ (x : Claims). times n x.claimed) (sym claims_is);
  }

  -- it has taken no turn
  started : IsStarted b ids (length ds + 0) m
  started = record {
    sound = record { seated = λ r. seated; keeps = λ r. keeps };
    one = record {
      claim_table = claim_table;
      deque =
          let l = length-map ds (λ (x : Deque). worker_deque x) in
          let e : length (ids_of ds) ≡ m.number = omega arith in
          sym (get_or-append_seam (ids_of ds) (worker_deque m.deque) (map id_of ms) (worker_deque m.deque)) ∙ ap (λ k. get_or (ids_of ds ++ worker_deque m.deque ∷ map id_of ms) k (worker_deque m.deque)) e ∙ ap (λ l'. get_or l' m.number (worker_deque m.deque)) ids_are;
      order = new_row.row.order;
    };
    number_is = omega arith;
    willing = willing;
    unscanned = none;
  }

  -- so have those after it
  all_started : (k : ℕ) (d : Marker) → k < length (m ∷ ms) → IsStarted b ids (length ds + k) (get_or (m ∷ ms) k d)
  all_started zero d h = started
  all_started (suc k) d h =
      let a = counts.0 in let e : length (ds ++ m.deque ∷ []) + k ≡ length ds + suc k = omega arith in
      subst (λ j. IsStarted b ids j (get_or ms k d)) e (s.started k d (omega arith))

  -- one marker more is made
  pub starts_more : Starts g b ids v w' ds rows (m ∷ ms)
  starts_more =
      let a = counts.0 in let c = counts.1 in record {
        opened = subst (All (IsSpread g (length ids))) (take-append_seam ds (m.deque ∷ [])) (All-take (IsSpread g (length ids)) (length ds) (ds ++ m.deque ∷ []) s.opened);
        left = λ k d h. subst (IsNewRow g ids k) (get_or_append_left rows (m.others ∷ []) d k h) (s.left k d (omega arith));
        many = let e = s.many in omega arith;
        total = let e = s.total in omega arith;
        order = ids_are;
        parts = let e = s.parts in let f = s.total in let p = ap (λ (x : Claims). x.parts) is in omega arith;
        claimed = λ n. ap (λ (x : Claims). times n x.claimed) is ∙ times_pushed n ds;
        seen = ap (λ (x : Claims). x.seen) is ∙ s.seen;
        given = λ n.
            let p : times n w'.claimed ≡ pushed_in n ds = ap (λ (x : Claims). times n x.claimed) is ∙ times_pushed n ds in
            let q = sum_by-cons (λ (x : Marker). times n (claims_of x).claimed) m ms in
            let r : times n (claims_of m).claimed ≡ times n (worker_view m.deque).pushed = ap (λ (x : Claims). times n x.claimed) claims_is in
            let t = sum_by_push (λ (x : Deque). times n (worker_view x).pushed) ds m.deque in
            let e = s.given n in let f = s.claimed n in
            omega arith;
        started = all_started;
      }
