-- Workers are taken apart, one after another.
use Rattle.std.proofs.Common.{◌≡◌, ℕ, ◌+◌, List, [], ◌∷◌, ◌++◌, length, map, refl, sym, ap, ◌∙◌, subst, arith}
use Rattle.std.specs.Prelude.{All, sum_by}
use Rattle.std.proofs.lemmas.List.{length-append, map-append}
use Rattle.std.proofs.Math.Seq.{get_or-append_seam}
use Rattle.std.proofs.lemmas.List.Sums.{sum_by-cons, sum_by_push}
use Rattle.std.proofs.lemmas.List.Elements.{All-head, All-tail}
use Rattle.crossbeam_deque.specs.Handles.{worker_view}
use Rattle.mark_core.specs.Bits.{times}
use Rattle.mark_core.proofs.Counts.{times-append}
use Rattle.steal_mark.specs.declared.shared.claims.Claims.{Claims}
use Rattle.steal_mark.specs.declared.shared.deques.PassView.{PassView}
use Rattle.steal_mark.specs.declared.turn.marker.Marker.{Marker}
use Rattle.steal_mark.specs.Claiming.{claims}
use Rattle.steal_mark.specs.Stealing.{pass_views}
use Rattle.steal_mark.specs.Closing.{listing, pushed_in, own_in, taken_in}
use Rattle.steal_mark.specs.Listing.{listed}
use Rattle.steal_mark.specs.Working.{Keeps, claims_of}
use Rattle.steal_mark.specs.Team.{Joined, Apart}
use Rattle.steal_mark.specs.Parts.{Deque, NodeList, PassRow}

-- the deque of a worker
abbrev pub deque_of : Marker → Deque
deque_of m = m.deque

-- the passes of a worker
abbrev pub others_of : Marker → PassRow
others_of m = m.others

-- the list of a worker
abbrev pub list_of : Marker → NodeList
list_of m = m.scanned

-- one seat more was joined
pub joined_more : (ms : List Marker) (m : Marker) (v w w' : Claims) → Joined ms v w → w' ≡ claims (w.parts + (claims_of m).parts) (w.claimed ++ (claims_of m).claimed) (w.seen ++ (claims_of m).seen) → Joined (ms ++ m ∷ []) v w'
joined_more ms m v w w' j is = record {
  parts = let a = ap (λ (c : Claims). c.parts) is in let b = sum_by_push (λ (x : Marker). (claims_of x).parts) ms m in let c = j.parts in omega arith;
  claimed = λ n. let a = ap (λ (c : Claims). times n c.claimed) is in let b = sum_by_push (λ (x : Marker). times n (claims_of x).claimed) ms m in let c = j.claimed n in let d = times-append n w.claimed (claims_of m).claimed in omega arith;
  seen = λ n. let a = ap (λ (c : Claims). times n c.seen) is in let b = sum_by_push (λ (x : Marker). times n (claims_of x).seen) ms m in let c = j.seen n in let d = times-append n w.seen (claims_of m).seen in omega arith;
}

-- one worker more was taken apart
pub apart_more : (ms : List Marker) (m : Marker) (ds ds' : List Deque) (rows rows' : List PassRow) (lists lists' : List NodeList) (v w w' : Claims) → Apart ms ds rows lists v w
    → ds' ≡ ds ++ m.deque ∷ [] → rows' ≡ rows ++ m.others ∷ [] → lists' ≡ lists ++ m.scanned ∷ [] → w' ≡ claims (w.parts + (claims_of m).parts) (w.claimed ++ (claims_of m).claimed) (w.seen ++ (claims_of m).seen)
    → Apart (ms ++ m ∷ []) ds' rows' lists' v w'
apart_more ms m ds ds' rows rows' lists lists' v w w' a d r l is = record {
  deques_are = d ∙ ap (λ x. x ++ m.deque ∷ []) a.deques_are ∙ sym (map-append deque_of ms (m ∷ []));
  rows_are = r ∙ ap (λ x. x ++ m.others ∷ []) a.rows_are ∙ sym (map-append others_of ms (m ∷ []));
  lists_are = l ∙ ap (λ x. x ++ m.scanned ∷ []) a.lists_are ∙ sym (map-append list_of ms (m ∷ []));
  joined = joined_more ms m v w w' a.joined is;
}

-- a sum of ones is a length
pub ones : (f : Marker → ℕ) (ms : List Marker) → All (λ m. f m ≡ 1) ms → sum_by f ms ≡ length ms
ones f [] all = refl
ones f (m ∷ ms) all =
    let a = sum_by-cons f m ms in let b : f m ≡ 1 = All-head (λ x. f x ≡ 1) m ms all in let c = ones f ms (All-tail (λ x. f x ≡ 1) m ms all) in omega arith

-- the workers pushed what they claimed
pub pushed_all : (n : ℕ) (ms : List Marker) → All Keeps ms → pushed_in n (map deque_of ms) ≡ sum_by (λ m. times n (claims_of m).claimed) ms
pushed_all n [] all = refl
pushed_all n (m ∷ ms) all =
    let k = (All-head Keeps m ms all).pushed n in
    let a = sum_by-cons (λ (d : Deque). times n (worker_view d).pushed) m.deque (map deque_of ms) in
    let b = sum_by-cons (λ (x : Marker). times n (claims_of x).claimed) m ms in
    let c = pushed_all n ms (All-tail Keeps m ms all) in
    omega arith

-- the workers listed what they took
pub listed_all : (n : ℕ) (ms : List Marker) → All Keeps ms → listed n (listing (map list_of ms)) ≡ own_in n (map deque_of ms) + taken_in n (map others_of ms)
listed_all n [] all = refl
listed_all n (m ∷ ms) all =
    let k = (All-head Keeps m ms all).scanned n in
    let a = sum_by-cons (λ (d : Deque). times n (worker_view d).taken) m.deque (map deque_of ms) in
    let b = sum_by-cons (λ (row : PassRow). sum_by (λ (h : PassView). times n h.taken) (pass_views row.items)) m.others (map others_of ms) in
    let c = sum_by-cons (times n) m.scanned.items (listing (map list_of ms)) in
    let d = listed_all n ms (All-tail Keeps m ms all) in
    omega arith

-- what holds of all holds of one
pub one_of : (P : Marker → Type 0) (xs : List Marker) (x : Marker) (ys all : List Marker) → xs ++ x ∷ ys ≡ all → All P all → P x
one_of P xs x ys all is h =
    let long = length-append xs (x ∷ ys) in
    subst P (get_or-append_seam xs x ys x) (subst (All P) (sym is) h (length xs) x (omega arith))
