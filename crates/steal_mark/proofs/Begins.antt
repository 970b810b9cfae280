-- A marking begins: each root is claimed once, and just the claimed nodes are pushed.
use Rattle.std.proofs.Common.{◌≡◌, ℕ, ◌<◌, List, [], ◌∷◌, ◌++◌, length, get_or, refl, sym, ap, ◌∙◌, subst, arith}
use Rattle.std.specs.Prelude.{All, Contains, sum_by}
use Rattle.std.specs.Arc.{arc_value}
use Rattle.std.proofs.lemmas.List.Sums.{sum_by-cons}
use Rattle.std.proofs.lemmas.List.Elements.{All-weaker, All-contains, All-head, All-tail, All-contains_itself, Contains-get_or}
use Rattle.crossbeam_deque.specs.Handles.{worker_view}
use Rattle.mark_core.specs.declared.graph.Graph.{Graph}
use Rattle.mark_core.specs.Bits.{times}
use Rattle.mark_core.specs.Reach.{IsInRange, Reached}
use Rattle.mark_core.proofs.Walks.{Reached-root}
use Rattle.steal_mark.specs.Growing.{MayClaim}
use Rattle.steal_mark.specs.declared.turn.marker.Marker.{Marker}
use Rattle.steal_mark.specs.Working.{Keeps, claims_of, own_pass_view}
use Rattle.mark_core.proofs.Counts.{contained, counted}
use Rattle.steal_mark.specs.declared.shared.claims.Claims.{Claims}
use Rattle.steal_mark.specs.declared.shared.deques.PassView.{PassView}
use Rattle.steal_mark.specs.Claiming.{claims, IsSeatOf, Knows}
use Rattle.steal_mark.specs.declared.start.roots.Rest.{Rest}
use Rattle.steal_mark.specs.Closing.{Id, pushed_in}
use Rattle.steal_mark.specs.Starting.{Begins, DealsOnce, Deals, IsFresh, pushes_of, IsStarted, Starts}
use Rattle.steal_mark.specs.Team.{IsRest}
use Rattle.steal_mark.specs.Parts.{Deque, PassRow}

-- what was pushed, where the lists are the same, and where nothing was
pub same_pushed : (n : ℕ) (xs ys : List Deque) → pushes_of xs ≡ pushes_of ys → pushed_in n xs ≡ pushed_in n ys
same_pushed n xs ys e = as_lists xs ∙ ap (sum_by (times n)) e ∙ sym (as_lists ys) where
  -- deque by deque
  as_lists : (zs : List Deque) → pushed_in n zs ≡ sum_by (times n) (pushes_of zs)
  as_lists [] = refl
  as_lists (z ∷ zs) =
      let a = sum_by-cons (λ (x : Deque). times n (worker_view x).pushed) z zs in
      let b = sum_by-cons (times n) (worker_view z).pushed (pushes_of zs) in
      let c = as_lists zs in
      omega arith

-- nothing was pushed to a new deque
pub none_pushed : (g : Graph) (n : ℕ) (ds : List Deque) → All (IsFresh g) ds → pushed_in n ds ≡ 0
none_pushed g n [] all = refl
none_pushed g n (d ∷ ds) all =
    let a = sum_by-cons (λ (x : Deque). times n (worker_view x).pushed) d ds in
    let b : times n (worker_view d).pushed ≡ 0 = ap (λ (h : PassView). times n h.pushed) (All-head (IsFresh g) d ds all).held in
    let c = none_pushed g n ds (All-tail (IsFresh g) d ds all) in
    omega arith

-- what was pushed to the deques that are opened is what was claimed
pub all_pushed : (g : Graph) (n : ℕ) (roots : List ℕ) (v w : Claims) (fresh dealt opened : List Deque) → All (IsFresh g) fresh → Deals g roots v w fresh dealt → pushes_of opened ≡ pushes_of dealt → v.claimed ≡ [] → pushed_in n opened ≡ times n w.claimed
all_pushed g n roots v w fresh dealt opened f d same none =
    let a = none_pushed g n fresh f in let b = d.pushed n in let c = same_pushed n opened dealt same in let e : times n v.claimed ≡ 0 = ap (times n) none in omega arith

-- sums of equal terms are equal
same_sums : (f h : Marker → ℕ) (ms : List Marker) → All (λ m. f m ≡ h m) ms → sum_by f ms ≡ sum_by h ms
same_sums f h [] all = refl
same_sums f h (m ∷ ms) all =
    let a = sum_by-cons f m ms in let b = sum_by-cons h m ms in let c : f m ≡ h m = All-head (λ x. f x ≡ h x) m ms all in let d = same_sums f h ms (All-tail (λ x. f x ≡ h x) m ms all) in omega arith

-- a marking has begun
module _ (g : Graph) (workers : ℕ) (r : Rest) (ids : List Id) (roots : List ℕ) (v w w0 : Claims) (fresh dealt : List Deque) (rows : List PassRow) (ms : List Marker)
    (graph : (arc_value r.claim_table).shared.key ≡ g) (seat : IsSeatOf g (arc_value r.claim_table).shared.table_id r.seat) (light : r.seat.me.1 ≡ []) (workers_are : r.workers ≡ workers) (many : length ids ≡ workers) (few : workers < 1024)
    (roots_are : roots ≡ g.roots.items) (none : v ≡ claims 1024 [] []) (d : Deals g roots v w fresh dealt) (knows : Knows g w) (same : w0 ≡ w) (s : Starts g (arc_value r.claim_table) ids w0 r.seat.me.0 [] rows ms) where
  -- no deque is left without a marker
  as_many : length ms ≡ workers
  as_many = let a = s.total in omega arith

  -- the marker at each place is new
  here : (k : ℕ) (m : Marker) → k < length ms → IsStarted (arc_value r.claim_table) ids k (get_or ms k m)
  here k m h = subst (λ j. IsStarted (arc_value r.claim_table) ids j (get_or ms k m)) (omega arith) (s.started k m h)

  -- the kept seat has seen the roots
  seen_is : r.seat.me.0.seen ≡ g.roots.items
  seen_is = s.seen ∙ ap (λ (x : Claims). x.seen) same ∙ d.seen ∙ ap (λ (x : Claims). x.seen ++ roots) none ∙ roots_are

  -- the dealing seat has seen the roots
  seen_w : w.seen ≡ g.roots.items
  seen_w = d.seen ∙ ap (λ (x : Claims). x.seen ++ roots) none ∙ roots_are

  -- each number of a list stands in it
  each_seen : (xs : List ℕ) → All (λ t. 0 < times t xs) xs
  each_seen xs = All-weaker (Contains xs) (λ t. 0 < times t xs) (λ t c. counted t xs c) xs (All-contains_itself xs)

  -- the markers together have the claims of the dealing seat
  sum_is : (n : ℕ) → sum_by (λ m. times n (claims_of m).claimed) ms ≡ times n w.claimed
  sum_is n = let a = s.given n in let b = s.claimed n in let e : times n w0.claimed ≡ times n w.claimed = ap (λ (x : Claims). times n x.claimed) same in omega arith

  -- each new marker keeps its promise
  keeps_each : All Keeps ms
  keeps_each k m h = let x = here k m h in x.sound.keeps x.willing

  -- the kept seat has claimed nothing, and has seen each root
  rest_is : IsRest g r
  rest_is = record {
    graph = graph;
    seat = seat;
    light = light;
    parts = let a = s.parts in let b = as_many in let e = d.parts in let f = ap (λ (x : Claims). x.parts) none in let f2 = ap (λ (x : Claims). x.parts) same in omega arith;
    few = omega arith;
    claimed = λ n. s.claimed n;
    roots = subst (λ l. All (λ t. 0 < times t l) g.roots.items) (sym seen_is) (each_seen g.roots.items);
  }

  -- each root was seen, so it was claimed; who has every part knows that it was claimed once
  once_is : DealsOnce g ms
  once_is = record {
    claimed = λ n c.
        let a = sum_is n in
        let seen : 0 < times n w.seen = subst (λ l. 0 < times n l) (sym seen_w) (counted n g.roots.items c) in
        let b : 0 < times n w.claimed = All-contains (λ t. 0 < times t w.claimed) w.seen n knows.seen (contained n w.seen seen) in
        let e = knows.once n in omega arith;
    pushed = λ n. same_sums (λ m. times n (own_pass_view m).pushed) (λ m. times n (claims_of m).claimed) ms (λ k m h. (keeps_each k m h).pushed n);
    only = λ n h.
        let a = sum_is n in let b = d.among n (omega arith) in let e : times n v.claimed ≡ 0 = ap (λ (x : Claims). times n x.claimed) none in
        let f = ap (times n) roots_are in
        contained n g.roots.items (omega arith);
  }

  -- the markers are new, and stand in order
  pub begins : Begins g workers r ms
  begins = record {
    rest = rest_is;
    team = record {
      ids = ids;
      workers = omega arith;
      sound = λ k m h. (here k m h).sound;
      each = λ k m h. (here k m h).one;
      order = λ e k m h. (here k m h).number_is;
    };
    workers_are = workers_are;
    many = as_many;
    willing = λ k m h. (here k m h).willing;
    unscanned = λ k m h. (here k m h).unscanned;
    once = once_is;
  }

-- a root is reached by the walk of no step
pub claim_roots : (g : Graph) → IsInRange g → MayClaim g g.roots.items
claim_roots g range k d h =
    let r : Reached g (get_or g.roots.items k d) = Reached-root g (get_or g.roots.items k d) (Contains-get_or g.roots.items k d h) in
    (r, range.1 k d h)
