-- A deque takes in its passes, row by row.
use Rattle.std.proofs.Common.{◌≡◌, ◌≢◌, ℕ, ◌+◌, ◌<◌, ◌≤◌, List, [], ◌∷◌, ◌++◌, length, get_or, map, set, refl, sym, ap, ◌∙◌, subst, arith}
use Rattle.std.specs.Prelude.{All, sum_by}
use Rattle.std.proofs.lemmas.List.{length-append, length-map, length-set, map-append, get_or_append_left, get_or-set_same, get_or-set_other}
use Rattle.std.proofs.Math.Seq.{get_or-append_seam}
use Rattle.steal_mark.specs.Stealing.{pass_view_of}
use native.Mathlib.Decide.{ℕ_discrete, dec_lt}
use mathlib.Core.Logic.{dite}
use Rattle.std.proofs.lemmas.List.Sums.{sum_by-set, sum_by_push}
use Rattle.std.proofs.lemmas.List.Elements.{All-contains, All-take, Contains-push}
use lib.Seq.{take-append_seam}
use Rattle.mark_core.proofs.Counts.{times-append}
use Rattle.crossbeam_deque.specs.Handles.{view, worker_deque, worker_view, stealer_deque}
use Rattle.mark_core.specs.declared.graph.Graph.{Graph}
use Rattle.mark_core.specs.Bits.{times}
use Rattle.steal_mark.specs.declared.turn.thief_pass.ThiefPass.{ThiefPass}
use Rattle.steal_mark.specs.declared.shared.deques.PassView.{PassView}
use Rattle.steal_mark.specs.Dealing.{SameDeque, joined}
use Rattle.steal_mark.specs.Stealing.{IsOther, IsPlaced, pass_views, parts_of}
use Rattle.steal_mark.specs.Closing.{Id, IsRow, taken_in}
use Rattle.steal_mark.specs.Parts.{Deque, PassRow}

-- the rows before `at` are closed: their pass on this deque is gone, its view is the owner's part
pub record Closes (g : Graph) (ids : List Id) (at : ℕ) (old new : Deque) (before after : List PassRow) : Type 0 where
  pub done : (k : ℕ) (d : PassRow) → k < at → IsRow g ids k (get_or after k d)
  pub ahead : (k : ℕ) (d : PassRow) → at ≤ k → k < length after → IsRow g (ids ++ worker_deque old ∷ []) k (get_or after k d)
  pub same : SameDeque old new
  pub graph : (worker_view new).graph ≡ (worker_view old).graph
  pub before_own : at ≤ length ids → (worker_view new).parts ≡ (worker_view old).parts + at
  pub after_own : length ids < at → (worker_view new).parts + 1 ≡ (worker_view old).parts + at
  pub pushed : (n : ℕ) → times n (worker_view new).pushed ≡ times n (worker_view old).pushed
  pub taken : (n : ℕ) → times n (worker_view new).taken + taken_in n after ≡ times n (worker_view old).taken + taken_in n before
  -- the front is as long as the deques that are left
  pub long : length after ≡ length before

-- lists with the same last element have the same front
snoc_same : {A : Type 0} (xs ys : List A) (x y : A) → xs ++ x ∷ [] ≡ ys ++ y ∷ [] → (xs ≡ ys) × (x ≡ y)
snoc_same [] [] x y e = (refl, cc)
snoc_same [] (b ∷ ys) x y e = absurd (let l = ap length e in let m = length-append ys (y ∷ []) in omega arith)
snoc_same (a ∷ xs) [] x y e = absurd (let l = ap length e in let m = length-append xs (x ∷ []) in omega arith)
snoc_same {A} (a ∷ xs) (b ∷ ys) x y e =
    let t : xs ++ x ∷ [] ≡ ys ++ y ∷ [] = cc in let h : a ≡ b = cc in let r = snoc_same xs ys x y t in (λ i. h i ∷ r.0 i, r.1)

-- which deque a pass is on
abbrev id_of : ThiefPass → Id
id_of o = stealer_deque o.stealer

-- the last pass of a row
module _ (g : Graph) (ids : List Id) (id : Id) (number : ℕ) (row row' : PassRow) (o : ThiefPass) (r : IsRow g (ids ++ id ∷ []) number row) (is : row.items ≡ row'.items ++ o ∷ []) where
  -- the fronts and the last deques are the same
  both : (map id_of row'.items ≡ ids) × (id_of o ≡ id)
  both = snoc_same (map id_of row'.items) ids (id_of o) id (sym (map-append id_of row'.items (o ∷ [])) ∙ ap (map id_of) (sym is) ∙ r.order)

  -- the last pass of a row is on the deque that is closed
  pub last_id : stealer_deque o.stealer ≡ id
  last_id = both.1

  all : All (IsOther g) (row'.items ++ o ∷ [])
  all = subst (All (IsOther g)) is r.others

  -- the last pass of a row is sound
  pub last_other : IsOther g o
  last_other = All-contains (IsOther g) (row'.items ++ o ∷ []) o all (Contains-push row'.items o)

  -- the parts of a row are those of its front and of its last pass
  split_parts : parts_of row.items ≡ parts_of row'.items ++ (pass_view_of o).parts ∷ []
  split_parts = ap parts_of is ∙ map-append (λ (x : ThiefPass). (pass_view_of x).parts) row'.items (o ∷ [])

  -- the places of the whole row
  placed : IsPlaced number (parts_of row'.items ++ (pass_view_of o).parts ∷ [])
  placed = subst (IsPlaced number) split_parts r.places

  -- the front is one shorter
  many : length (parts_of row'.items) ≡ length ids
  many = let a = length-map row'.items (λ (x : ThiefPass). (pass_view_of x).parts) in let b = length-map row'.items id_of in let e = ap length both.0 in omega arith

  long : length (parts_of row'.items ++ (pass_view_of o).parts ∷ []) ≡ length ids + 1
  long = let a = many in let b = length-append (parts_of row'.items) ((pass_view_of o).parts ∷ []) in omega arith

  -- the last part stands behind the front
  seam : get_or (parts_of row'.items ++ (pass_view_of o).parts ∷ []) (length ids) 0 ≡ (pass_view_of o).parts
  seam = ap (λ k. get_or (parts_of row'.items ++ (pass_view_of o).parts ∷ []) k 0) (sym many) ∙ get_or-append_seam (parts_of row'.items) ((pass_view_of o).parts) [] 0

  -- the owner's own pass has no part
  pub own_part : length ids ≡ number → (pass_view_of o).parts ≡ 0
  own_part e = let l = long in sym seam ∙ (placed (length ids) (omega arith)).0 e

  -- a thief's pass has one part
  pub other_part : length ids ≢ number → (pass_view_of o).parts ≡ 1
  other_part e = let l = long in sym seam ∙ (placed (length ids) (omega arith)).1 e

  -- the front keeps its places
  places_rest : IsPlaced number (parts_of row'.items)
  places_rest k h =
      let l = long in let m = many in
      let same : get_or (parts_of row'.items ++ (pass_view_of o).parts ∷ []) k 0 ≡ get_or (parts_of row'.items) k 0 = get_or_append_left (parts_of row'.items) ((pass_view_of o).parts ∷ []) 0 k h in
      let p = placed k (omega arith) in
      ((λ e. sym same ∙ p.0 e), (λ e. sym same ∙ p.1 e))

  -- a row without its last pass is a row on the deques that are left
  pub row_rest : IsRow g ids number row'
  row_rest = record {
    others = subst (All (IsOther g)) (take-append_seam row'.items (o ∷ [])) (All-take (IsOther g) (length row'.items) (row'.items ++ o ∷ []) all);
    order = both.0;
    places = places_rest;
  }

  -- what a row took is what its front and its last pass took
  pub row_taken : (n : ℕ) → sum_by (λ (h : PassView). times n h.taken) (pass_views row.items) ≡ sum_by (λ (h : PassView). times n h.taken) (pass_views row'.items) + times n (view o.pass).taken
  row_taken n = ap (λ l. sum_by (λ (h : PassView). times n h.taken) (pass_views l)) is ∙ ap (sum_by (λ (h : PassView). times n h.taken)) (map-append (λ (x : ThiefPass). view x.pass) row'.items (o ∷ [])) ∙ sum_by_push (λ (h : PassView). times n h.taken) (pass_views row'.items) (view o.pass)

-- the owner always has a part
pub parts_left : (g : Graph) (ids : List Id) (at : ℕ) (old new : Deque) (before after : List PassRow) → Closes g ids at old new before after → 0 < (worker_view old).parts → 0 < (worker_view new).parts
parts_left g ids at old new before after c some_part =
    dite (dec_lt (length ids) at) (λ (h : length ids < at). let a = c.after_own h in omega arith) (λ h. let a = c.before_own (omega arith) in omega arith)

-- one row more
-- one row more is closed: what its last pass has pushed and taken is its owner's now
module _ (g : Graph) (ids : List Id) (i : ℕ) (old mid new : Deque) (before rows : List PassRow) (row row' : PassRow) (o : ThiefPass) (c : Closes g ids i old mid before rows) (inside : i < length rows)
    (at : row ≡ get_or rows i row) (is : row.items ≡ row'.items ++ o ∷ []) (same : SameDeque mid new) (v : worker_view new ≡ joined (worker_view mid) (view o.pass)) where
  -- the deques with this one
  abbrev all_ids : List Id
  all_ids = ids ++ worker_deque old ∷ []

  -- the row at i still has its last pass
  row_is : IsRow g all_ids i row
  row_is = subst (IsRow g all_ids i) (sym at) (c.ahead i row (omega arith) inside)

  -- the row at i has its last pass no more, and the rows before it had that before
  done_more : (k : ℕ) (d : PassRow) → k < i + 1 → IsRow g ids k (get_or (set rows i row') k d)
  done_more k d h = dite (ℕ_discrete k i)
      (λ (e : k ≡ i). subst (λ j. IsRow g ids j (get_or (set rows i row') j d)) (sym e) (subst (IsRow g ids i) (sym (get_or-set_same rows i row' d inside)) (row_rest g ids (worker_deque old) i row row' o row_is is)))
      (λ (ne : k ≢ i). subst (IsRow g ids k) (sym (get_or-set_other rows i k row' d ne)) (c.done k d (omega arith)))

  -- past the owner's row, where the pass had no part, the deque has one part more a row
  parts_after : length ids < i + 1 → (worker_view new).parts + 1 ≡ (worker_view old).parts + (i + 1)
  parts_after h =
      let a = ap (λ (h : PassView). h.parts) v in
      dite (ℕ_discrete (length ids) i)
      (λ (e : length ids ≡ i). let b = own_part g ids (worker_deque old) i row row' o row_is is e in let d = c.before_own (omega arith) in omega arith)
      (λ (ne : length ids ≢ i). let b = other_part g ids (worker_deque old) i row row' o row_is is ne in let d = c.after_own (omega arith) in omega arith)

  -- what the pass took is counted with its owner's, and no more with the row
  taken_more : (n : ℕ) → times n (worker_view new).taken + taken_in n (set rows i row') ≡ times n (worker_view old).taken + taken_in n before
  taken_more n =
      let a = ap (λ (h : PassView). times n h.taken) v in let b = times-append n (worker_view mid).taken (view o.pass).taken in
      let f = sum_by-set (λ (x : PassRow). sum_by (λ (h : PassView). times n h.taken) (pass_views x.items)) rows i row' row inside in
      let e = row_taken g ids (worker_deque old) i row row' o row_is is n in
      let q : sum_by (λ (h : PassView). times n h.taken) (pass_views (get_or rows i row).items) ≡ sum_by (λ (h : PassView). times n h.taken) (pass_views row.items) = ap (λ (x : PassRow). sum_by (λ (h : PassView). times n h.taken) (pass_views x.items)) (sym at) in
      let d = c.taken n in omega arith

  -- one row more is closed
  pub closes_more : Closes g ids (i + 1) old new before (set rows i row')
  closes_more =
      let other : IsOther g o = last_other g ids (worker_deque old) i row row' o row_is is in record {
        done = done_more;
        ahead = λ k d low high. let long' = length-set rows i row' in let ne : k ≢ i = omega arith in subst (IsRow g all_ids k) (sym (get_or-set_other rows i k row' d ne)) (c.ahead k d (omega arith) (omega arith));
        same = (same.0 ∙ c.same.0, same.1 ∙ c.same.1);
        graph = ap (λ (h : PassView). h.graph) v ∙ c.graph;
        before_own = λ h. let a = ap (λ (h : PassView). h.parts) v in let b = other_part g ids (worker_deque old) i row row' o row_is is (omega arith) in let d = c.before_own (omega arith) in omega arith;
        after_own = parts_after;
        pushed = λ n. let a = ap (λ (h : PassView). times n h.pushed) v in let b = times-append n (worker_view mid).pushed (view o.pass).pushed in let e : times n (view o.pass).pushed ≡ 0 = ap (times n) other.unpushed in let d = c.pushed n in omega arith;
        taken = taken_more;
        long = length-set rows i row' ∙ c.long;
      }
