-- One deque less is open.
use Rattle.std.proofs.Common.{◌≡◌, ℕ, ◌+◌, ◌<◌, ◌≤◌, List, [], ◌∷◌, ◌++◌, length, get_or, set, sym, ap, ◌∙◌, subst, arith}
use Rattle.std.specs.Prelude.{All}
use Rattle.std.proofs.lemmas.List.{length-append, length-set, length-map, map-set, get_or-map}
use Rattle.std.proofs.lemmas.List.Sums.{sum_by-set, sum_by_push}
use Rattle.std.proofs.lemmas.List.Elements.{All-append, All-weaker, All-set, All-take}
use lib.Seq.{take-append_seam}
use Rattle.crossbeam_deque.specs.Handles.{worker_view}
use Rattle.mark_core.specs.declared.graph.Graph.{Graph}
use Rattle.mark_core.specs.Bits.{times}
use Rattle.mark_core.specs.Reach.{targets}
use Rattle.mark_core.proofs.Counts.{times-append}
use Rattle.steal_mark.specs.declared.shared.deques.PassView.{PassView}
use Rattle.steal_mark.specs.declared.shared.claims.Claims.{Claims}
use Rattle.steal_mark.specs.Working.{Saw}
use Rattle.steal_mark.specs.Listing.{listed}
use Rattle.steal_mark.specs.Draining.{Drains, DrainsAll}
use Rattle.steal_mark.specs.Closing.{AreRows, ids_of, own_in, pushed_in, taken_in, IsOpen, listing, Balanced}
use Rattle.steal_mark.specs.Parts.{Deque, NodeList, PassRow}

-- what was seen stays seen
saw_longer : (g : Graph) (seen more nodes : List ℕ) → Saw g seen nodes → Saw g (seen ++ more) nodes
saw_longer g seen more nodes s = All-weaker _ _ (λ m h. All-weaker (λ t. 0 < times t seen) (λ t. 0 < times t (seen ++ more)) (λ t p. let e = times-append t seen more in omega arith) (targets g m) h) nodes s

-- what was seen later is seen in all
saw_later : (g : Graph) (seen more nodes : List ℕ) → Saw g more nodes → Saw g (seen ++ more) nodes
saw_later g seen more nodes s = All-weaker _ _ (λ m h. All-weaker (λ t. 0 < times t more) (λ t. 0 < times t (seen ++ more)) (λ t p. let e = times-append t seen more in omega arith) (targets g m) h) nodes s

module _ (g : Graph) (ds : List Deque) (d : Deque) (rows rows' : List PassRow) (lists : List NodeList) (v w : Claims)
    (b : Balanced g (ds ++ d ∷ []) rows lists v) where
  -- what was pushed to the last deque was claimed
  pub last_backed : (n : ℕ) → times n (worker_view d).pushed ≤ times n v.claimed
  last_backed n = let a = b.backed n in let p = sum_by_push (λ (x : Deque). times n (worker_view x).pushed) ds d in omega arith

  -- the last deque has a list
  pub inside : length ds < length lists
  inside = let a = b.room in let e = length-append ds (d ∷ []) in omega arith

  -- the last deque has a row
  pub own_row : length ds < length rows
  own_row = let a = b.owned in let e = length-append ds (d ∷ []) in omega arith

  module _ (mid last : PassView) (list list' : NodeList) (at : list ≡ get_or lists (length ds) list) (many : length rows' ≡ length rows) (passes : AreRows g (ids_of ds) rows')
      (pushed : (n : ℕ) → times n mid.pushed ≡ times n (worker_view d).pushed) (taken : (n : ℕ) → times n mid.taken + taken_in n rows' ≡ times n (worker_view d).taken + taken_in n rows)
      (dr : DrainsAll g v w mid last list.items list'.items) where
    -- what draining did
    abbrev x : Drains g dr.0.0 v w mid last list.items list'.items
    x = dr.0.1

    -- the drained list stands at the deque's number, and the other lists stay
    set_is : listing (set lists (length ds) list') ≡ set (listing lists) (length ds) list'.items
    set_is = map-set (λ (l : NodeList). l.items) lists (length ds) list'

    -- the list at the number of the deque
    item : get_or (listing lists) (length ds) [] ≡ list.items
    item = get_or-map (λ (l : NodeList). l.items) lists (length ds) list [] inside ∙ ap (λ (l : NodeList). l.items) (sym at)

    -- the number is that of a list
    listed_inside : length ds < length (listing lists)
    listed_inside = let e = length-map lists (λ (l : NodeList). l.items) in let i = inside in omega arith

    -- the seat saw what was looked at while draining
    seen_is : w.seen ≡ v.seen ++ x.looks
    seen_is = ap (λ (c : Claims). c.seen) x.seat

    -- the seat claimed what was pushed while draining
    claimed_is : (n : ℕ) → times n w.claimed ≡ times n v.claimed + times n x.more
    claimed_is n = ap (λ (h : Claims). times n h.claimed) x.seat ∙ times-append n v.claimed x.more

    -- each target of a drained node was looked at, and those of the nodes before it were seen
    saw_list : Saw g (v.seen ++ x.looks) list'.items
    saw_list =
        let P : ℕ → Type 0 = λ m. All (λ t. 0 < times t (v.seen ++ x.looks)) (targets g m) in
        let here : Saw g v.seen list.items = subst (Saw g v.seen) item (b.saw (length ds) [] listed_inside) in
        subst (Saw g (v.seen ++ x.looks)) (sym x.list) (All-append P list.items x.drained (saw_longer g v.seen x.looks list.items here) (saw_later g v.seen x.looks x.drained x.saw))

    -- all lists are seen, the drained one too
    saw_after : All (Saw g w.seen) (listing (set lists (length ds) list'))
    saw_after = subst (λ l. All (Saw g w.seen) l) (sym set_is) (subst (λ s. All (Saw g s) (set (listing lists) (length ds) list'.items)) (sym seen_is)
        (All-set (Saw g (v.seen ++ x.looks)) (listing lists) (length ds) list'.items saw_list (All-weaker (Saw g v.seen) (Saw g (v.seen ++ x.looks)) (λ l h. saw_longer g v.seen x.looks l h) (listing lists) b.saw)))

    -- what was drained is listed; what was claimed meanwhile was pushed to this deque, which is dry
    counts_after : (n : ℕ) → listed n (listing (set lists (length ds) list')) + pushed_in n ds ≡ times n w.claimed + (own_in n ds + taken_in n rows')
    counts_after n =
        let c = b.counts n in
        let p = sum_by_push (λ (y : Deque). times n (worker_view y).pushed) ds d in
        let u = sum_by_push (λ (y : Deque). times n (worker_view y).taken) ds d in
        let q = pushed n in let t = taken n in
        let e1 : times n last.pushed ≡ times n (mid.pushed ++ x.more) = ap (λ (h : PassView). times n h.pushed) x.deque in
        let e2 : times n last.taken ≡ times n (mid.taken ++ x.drained) = ap (λ (h : PassView). times n h.taken) x.deque in
        let f1 = times-append n mid.pushed x.more in let f2 = times-append n mid.taken x.drained in let f3 = claimed_is n in
        let dry = dr.1 n in
        let l = ap (times n) x.list in let f4 = times-append n list.items x.drained in
        let s = sum_by-set (times n) (listing lists) (length ds) list'.items [] listed_inside in
        let i = ap (times n) item in
        let z : listed n (listing (set lists (length ds) list')) ≡ listed n (set (listing lists) (length ds) list'.items) = ap (listed n) set_is in
        omega arith

    -- with this deque closed and drained the equation holds of the deques that are left
    pub balanced_after : Balanced g ds rows' (set lists (length ds) list') w
    balanced_after = record {
      parts = ap (λ (c : Claims). c.parts) x.seat ∙ b.parts;
      deques_open = subst (λ m. All (IsOpen g m) ds) (sym many) (subst (All (IsOpen g (length rows))) (take-append_seam ds (d ∷ [])) (All-take (IsOpen g (length rows)) (length ds) (ds ++ d ∷ []) b.deques_open));
      passes = passes;
      room = let e = length-set lists (length ds) list' in let i = inside in omega arith;
      owned = let i = own_row in omega arith;
      counts = counts_after;
      backed = λ n. let c = b.backed n in let p = sum_by_push (λ (y : Deque). times n (worker_view y).pushed) ds d in let f3 = claimed_is n in omega arith;
      saw = saw_after;
      roots = subst (λ s. All (λ r. 0 < times r s) g.roots.items) (sym seen_is) (All-weaker (λ r. 0 < times r v.seen) (λ r. 0 < times r (v.seen ++ x.looks)) (λ r p. let e = times-append r v.seen x.looks in omega arith) g.roots.items b.roots);
    }
