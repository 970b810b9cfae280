-- Each worker gets a pass on a deque.
use Rattle.std.proofs.Common.{◌≡◌, ◌≢◌, ℕ, ◌+◌, ◌<◌, ◌≤◌, List, [], ◌∷◌, ◌++◌, Bool, true, false, true≢false, eq-eqb, length, get_or, map, set, refl, sym, ap, ◌∙◌, subst, arith}
use Rattle.std.specs.Prelude.{All, sum_by, Some, nat_eq}
use Rattle.std.proofs.lemmas.List.{length-map, length-append, length-set, map-append, get_or_append_left, get_or-set_same, get_or-set_other}
use Rattle.std.proofs.Math.Seq.{get_or-append_seam}
use Rattle.std.proofs.lemmas.List.Sums.{sum_by_push}
use Rattle.std.proofs.lemmas.List.Elements.{All-push}
use Rattle.std.proofs.lemmas.Bool.Decides.{nat_tests}
use native.Mathlib.Decide.{ℕ_discrete, dec_lt}
use mathlib.Core.Logic.{dite}
use Rattle.crossbeam_deque.specs.Handles.{view, IsPassOf, worker_deque, worker_view, stealer_deque}
use Rattle.mark_core.specs.declared.graph.Graph.{Graph}
use Rattle.mark_core.specs.Bits.{times}
use Rattle.steal_mark.specs.declared.shared.deques.PassView.{PassView}
use Rattle.steal_mark.specs.declared.turn.thief_pass.ThiefPass.{ThiefPass}
use Rattle.steal_mark.specs.Dealing.{SameDeque}
use Rattle.steal_mark.specs.Stealing.{IsOther, IsPlaced, parts_of, pass_view_of, pass_views}
use Rattle.steal_mark.specs.Closing.{Id, ids_of}
use Rattle.steal_mark.specs.Starting.{IsCut, IsNewRow, AreNewRows, IsSpread, part_of, pushes_of}
use Rattle.steal_mark.specs.Parts.{Deque, PassRow}

-- the rows before `at` have a pass on this deque as their last
pub record Opens (g : Graph) (ids : List Id) (at : ℕ) (old new : Deque) (before after : List PassRow) : Type 0 where
  pub done : (k : ℕ) (d : PassRow) → k < at → IsNewRow g (ids ++ worker_deque old ∷ []) k (get_or after k d)
  pub ahead : (k : ℕ) (d : PassRow) → at ≤ k → k < length after → IsNewRow g ids k (get_or after k d)
  pub same : SameDeque old new
  pub graph : (worker_view new).graph ≡ (worker_view old).graph
  pub pushed : (worker_view new).pushed ≡ (worker_view old).pushed
  pub taken : (worker_view new).taken ≡ (worker_view old).taken
  pub before_own : at ≤ length ids → (worker_view new).parts + at ≡ (worker_view old).parts
  pub after_own : length ids < at → (worker_view new).parts + at ≡ (worker_view old).parts + 1
  pub long : length after ≡ length before

-- a row with one pass more
module _ (g : Graph) (ids : List Id) (number part : ℕ) (old new : Deque) (row row' : PassRow) (o : ThiefPass) (r : IsNewRow g ids number row) (c : IsCut part old new o) (named : (worker_view old).graph ≡ Some g)
    (own : length ids ≡ number → part ≡ 0) (others : length ids ≢ number → part ≡ 1) (is : row'.items ≡ row.items ++ o ∷ []) where
  -- a row has a part for each deque
  many : length (parts_of row.items) ≡ length ids
  many = let a = length-map row.items (λ (x : ThiefPass). (pass_view_of x).parts) in let b = length-map row.items (λ (x : ThiefPass). stealer_deque x.stealer) in let e = ap length r.row.order in omega arith

  -- the new pass has the part that was cut off
  part_is : (pass_view_of o).parts ≡ part
  part_is = ap (λ (h : PassView). h.parts) c.held

  -- the new pass is sound
  new_other : IsOther g o
  new_other = record {
    pass = subst (λ (x : Id). IsPassOf x o.pass) (sym c.deque) c.pass;
    fifo = c.fifo;
    graph = ap (λ (h : PassView). h.graph) c.held ∙ named;
    unpushed = ap (λ (h : PassView). h.pushed) c.held;
  }

  -- the row with the new pass keeps its places
  placed : IsPlaced number (parts_of row.items ++ (pass_view_of o).parts ∷ [])
  placed k h =
      let long = length-append (parts_of row.items) ((pass_view_of o).parts ∷ []) in
      let m = many in
      dite (dec_lt k (length ids))
      (λ (l : k < length ids).
      let same = get_or_append_left (parts_of row.items) ((pass_view_of o).parts ∷ []) 0 k (omega arith) in
      let p = r.row.places k (omega arith) in
      ((λ e. same ∙ p.0 e), (λ e. same ∙ p.1 e)))
      (λ nl.
      let e : k ≡ length ids = omega arith in
      let seam : get_or (parts_of row.items ++ (pass_view_of o).parts ∷ []) k 0 ≡ part = ap (λ j. get_or (parts_of row.items ++ (pass_view_of o).parts ∷ []) j 0) (e ∙ sym m) ∙ get_or-append_seam (parts_of row.items) ((pass_view_of o).parts) [] 0 ∙ part_is in
      ((λ a. seam ∙ own (sym e ∙ a)), (λ a. seam ∙ others (λ b. a (e ∙ b)))))

  -- the row with the new pass is a row
  pub row_more : IsNewRow g (ids ++ worker_deque old ∷ []) number row'
  row_more = record {
    row = record {
      others = subst (All (IsOther g)) (sym is) (All-push (IsOther g) row.items o r.row.others new_other);
      order = ap (map (λ (x : ThiefPass). stealer_deque x.stealer)) is ∙ map-append (λ (x : ThiefPass). stealer_deque x.stealer) row.items (o ∷ []) ∙ (λ i. r.row.order i ++ c.deque i ∷ []);
      places = subst (IsPlaced number) (sym (ap parts_of is ∙ map-append (λ (x : ThiefPass). (pass_view_of x).parts) row.items (o ∷ []))) placed;
    };
    untaken = λ n.
        let a : sum_by (λ (h : PassView). times n h.taken) (pass_views row'.items) ≡ sum_by (λ (h : PassView). times n h.taken) (pass_views row.items) + times n (view o.pass).taken
        = ap (λ l. sum_by (λ (h : PassView). times n h.taken) (pass_views l)) is ∙ ap (sum_by (λ (h : PassView). times n h.taken)) (map-append pass_view_of row.items (o ∷ [])) ∙ sum_by_push (λ (h : PassView). times n h.taken) (pass_views row.items) (view o.pass) in
        let b = r.untaken n in
        let e : times n (view o.pass).taken ≡ 0 = ap (λ (h : PassView). times n h.taken) c.held in
        omega arith;
  }

-- the owner always has a part to spare
pub parts_left : (g : Graph) (ids : List Id) (at : ℕ) (old new : Deque) (before after : List PassRow) → Opens g ids at old new before after → (worker_view old).parts ≡ 1024 → at < 1023 → 1 < (worker_view new).parts
parts_left g ids at old new before after o all few =
    dite (dec_lt (length ids) at) (λ (h : length ids < at). let a = o.after_own h in omega arith) (λ h. let a = o.before_own (omega arith) in omega arith)

-- its owner gets no part
part_true : (b : Bool) → b ≡ true → part_of b ≡ 0
part_true true e = refl
part_true false e = absurd (true≢false (sym e))

-- the row of the deque's number is its owner's
pub part_own : (k n : ℕ) → k ≡ n → part_of (nat_eq k n) ≡ 0
part_own k n e = part_true (nat_eq k n) (eq-eqb k n e)

-- a thief gets a part
part_false : (k n : ℕ) (b : Bool) → nat_eq k n ≡ b → k ≢ n → part_of b ≡ 1
part_false k n true e ne = absurd (let z : k ≡ n = grind (arith, nat_tests) in ne z)
part_false k n false e ne = refl

-- each other row is a thief's
pub part_other : (k n : ℕ) → k ≢ n → part_of (nat_eq k n) ≡ 1
part_other k n ne = part_false k n (nat_eq k n) refl ne

-- no more than one part is cut off
at_most : (b : Bool) → part_of b ≤ 1
at_most true = omega arith
at_most false = omega arith

-- a part is at most m
pub part_small : (k n m : ℕ) → 1 < m → part_of (nat_eq k n) ≤ m
part_small k n m h = let a = at_most (nat_eq k n) in omega arith

-- one row more has its pass
pub opens_more : (g : Graph) (ids : List Id) (i part : ℕ) (old mid new : Deque) (before rows : List PassRow) (row row' : PassRow) (o : ThiefPass) → Opens g ids i old mid before rows → (worker_view old).graph ≡ Some g
    → (length ids ≡ i → part ≡ 0) → (length ids ≢ i → part ≡ 1) → i < length rows → row ≡ get_or rows i row → row'.items ≡ row.items ++ o ∷ [] → part ≤ (worker_view mid).parts → IsCut part mid new o → SameDeque mid new → Opens g ids (i + 1) old new before (set rows i row')
opens_more g ids i part old mid new before rows row row' o p named own others inside at is enough c same =
    let r : IsNewRow g ids i row = subst (IsNewRow g ids i) (sym at) (p.ahead i row (omega arith) inside) in
    let more : IsNewRow g (ids ++ worker_deque mid ∷ []) i row' = row_more g ids i part mid new row row' o r c (p.graph ∙ named) own others is in
    let here : IsNewRow g (ids ++ worker_deque old ∷ []) i row' = subst (λ (x : Id). IsNewRow g (ids ++ x ∷ []) i row') p.same.0 more in
    record {
      done = λ k d h. dite (ℕ_discrete k i)
          (λ (e : k ≡ i). subst (λ j. IsNewRow g (ids ++ worker_deque old ∷ []) j (get_or (set rows i row') j d)) (sym e) (subst (IsNewRow g (ids ++ worker_deque old ∷ []) i) (sym (get_or-set_same rows i row' d inside)) here))
          (λ (ne : k ≢ i). subst (IsNewRow g (ids ++ worker_deque old ∷ []) k) (sym (get_or-set_other rows i k row' d ne)) (p.done k d (omega arith)));
      ahead = λ k d low high. let long = length-set rows i row' in let ne : k ≢ i = omega arith in subst (IsNewRow g ids k) (sym (get_or-set_other rows i k row' d ne)) (p.ahead k d (omega arith) (omega arith));
      same = (same.0 ∙ p.same.0, same.1 ∙ p.same.1);
      graph = ap (λ (h : PassView). h.graph) c.left ∙ p.graph;
      pushed = ap (λ (h : PassView). h.pushed) c.left ∙ p.pushed;
      taken = ap (λ (h : PassView). h.taken) c.left ∙ p.taken;
      before_own = λ h. let a = ap (λ (x : PassView). x.parts) c.left in let b = others (omega arith) in let e = p.before_own (omega arith) in omega arith;
      after_own = λ h. let a = ap (λ (x : PassView). x.parts) c.left in
          dite (ℕ_discrete (length ids) i) (λ (e : length ids ≡ i). let b = own e in let f = p.before_own (omega arith) in omega arith) (λ (ne : length ids ≢ i). let b = others ne in let f = p.after_own (omega arith) in omega arith);
      long = length-set rows i row' ∙ p.long;
    }

-- the deques are spread, each over all rows
pub record SpreadsAll (g : Graph) (ds opened : List Deque) (before after : List PassRow) : Type 0 where
  pub rows : AreNewRows g (ids_of opened) after
  pub spread : All (IsSpread g (length before)) opened
  pub pushed : pushes_of opened ≡ pushes_of ds
  pub many : length opened ≡ length ds
  pub long : length after ≡ length before

-- one deque more is spread
pub spreads_more : (g : Graph) (ds opened : List Deque) (d d' : Deque) (before rows rows' : List PassRow) → SpreadsAll g ds opened before rows → SameDeque d d' → AreNewRows g (ids_of opened ++ worker_deque d ∷ []) rows' → length rows' ≡ length rows
    → IsSpread g (length rows) d' → (worker_view d').pushed ≡ (worker_view d).pushed → SpreadsAll g (ds ++ d ∷ []) (opened ++ d' ∷ []) before rows'
spreads_more g ds opened d d' before rows rows' s same new long is pushed = record {
  rows = subst (λ ids. AreNewRows g ids rows') (ap (λ (x : Id). ids_of opened ++ x ∷ []) (sym same.0) ∙ sym (map-append (λ (x : Deque). worker_deque x) opened (d' ∷ []))) new;
  spread = All-push (IsSpread g (length before)) opened d' s.spread (subst (λ n. IsSpread g n d') s.long is);
  pushed = map-append (λ (x : Deque). (worker_view x).pushed) opened (d' ∷ []) ∙ (λ i. s.pushed i ++ pushed i ∷ []) ∙ sym (map-append (λ (x : Deque). (worker_view x).pushed) ds (d ∷ []));
  many = let a = length-append opened (d' ∷ []) in let b = length-append ds (d ∷ []) in let c = s.many in omega arith;
  long = long ∙ s.long;
}
