-- Workers that come back from their threads are those of the marking.
use Rattle.std.proofs.Common.{◌≡◌, ℕ, ◌<◌, List, [], ◌∷◌, ◌++◌, length, get_or, map, refl, sym, ap, ◌∙◌, subst, arith}
use Rattle.std.specs.Arc.{arc_value}
use Rattle.std.proofs.lemmas.List.{length-map, length-append, get_or-map, get_or_append_left}
use Rattle.std.specs.Prelude.{All}
use Rattle.std.proofs.lemmas.List.Elements.{All-push, All-take}
use lib.Seq.{take-append_seam}
use Rattle.std.proofs.Math.Seq.{get_or-append_seam}
use native.Mathlib.Decide.{dec_lt}
use mathlib.Core.Logic.{dite}
use Rattle.std.specs.declared.thread.PromisedHandle.{PromisedHandle}
use Rattle.crossbeam_deque.specs.Handles.{stealer_deque}
use Rattle.steal_mark.specs.declared.start.roots.Rest.{Rest}
use Rattle.steal_mark.specs.declared.turn.marker.Marker.{Marker}
use Rattle.steal_mark.specs.declared.turn.thief_pass.ThiefPass.{ThiefPass}
use Rattle.steal_mark.specs.declared.threads.start.SameAs.{SameAs}
use Rattle.steal_mark.specs.Closing.{Id}
use Rattle.steal_mark.specs.Working.{IsSound, SameMarker}
use Rattle.steal_mark.specs.Team.{AreWorked, IsOne, IsTeam}

-- the worker that a thread began with
abbrev pub began : PromisedHandle Marker SameAs → Marker
began h = h.promise.0.value

-- the deques of the stealers are as before
id_of_all : (xs : List ThiefPass) → map (λ (o : ThiefPass). stealer_deque o.stealer) xs ≡ map (λ s. stealer_deque s) (map (λ (o : ThiefPass). o.stealer) xs)
id_of_all [] = refl
id_of_all (x ∷ xs) = ap (λ l. stealer_deque x.stealer ∷ l) (id_of_all xs)

-- a turn changes neither the deque nor the stealers, so the worker is still one of the marking
same_one : (r : Rest) (ids : List Id) (a b : Marker) → SameMarker a b → IsOne (arc_value r.claim_table) ids a → IsOne (arc_value r.claim_table) ids b
same_one r ids a b s o = record {
  claim_table = s.claim_table ∙ o.claim_table;
  deque = s.deque ∙ o.deque ∙ (λ i. get_or ids (sym s.number i) (sym s.deque i));
  order = id_of_all b.others.items ∙ ap (map (λ x. stealer_deque x)) s.stealers ∙ sym (id_of_all a.others.items) ∙ o.order;
}

-- turns leave each worker at its place
pub team_after : (r : Rest) (old new : List Marker) → IsTeam r old → AreWorked old new → IsTeam r new
team_after r old new t w = record {
  ids = t.ids;
  workers = t.workers;
  sound = w.sound;
  each = λ k d h. let m = w.many in let i : k < length old = omega arith in same_one r t.ids (get_or old k d) (get_or new k d) (w.same k d d i) (t.each k d i);
  order = λ e k d h. let m = w.many in let i : k < length old = omega arith in (w.same k d d i).number ∙ t.order (omega arith) k d i;
}

-- each thread promised that its worker comes back as the same
pub all_worked : (ms rs : List Marker) (hs : List (PromisedHandle Marker SameAs)) → map began hs ≡ ms → length rs ≡ length hs
    → ((i : ℕ) (d : Marker) → i < length hs → (h : PromisedHandle Marker SameAs) × (h ≡ get_or hs i h) × SameMarker (began h) (get_or rs i d) × IsSound (get_or rs i d)) → AreWorked ms rs
all_worked ms rs hs is many each =
    let l = length-map hs began in let e = ap length is in record {
      many = omega arith;
      same = λ k a b i.
          let x = each k b (omega arith) in
          let at : began x.0 ≡ get_or ms k a = ap began x.1 ∙ sym (get_or-map began hs k x.0 a (omega arith)) ∙ ap (λ z. get_or z k a) is in
          subst (λ z. SameMarker z (get_or rs k b)) at x.2;
      sound = λ k d h. (each k d (omega arith)).3;
    }

-- one worker more, which took turns in the calling thread
pub worked_and : (ms rs : List Marker) (own last : Marker) → AreWorked ms rs
    → SameMarker own last → IsSound last → AreWorked (ms ++ own ∷ []) (rs ++ last ∷ [])
worked_and ms rs own last w same sound =
    let m = w.many in
    let l = length-append ms (own ∷ []) in
    let l' = length-append rs (last ∷ []) in
    record {
      many = omega arith;
      same = λ k a b h. dite (dec_lt k (length ms))
          (λ (left : k < length ms).
          let e = get_or_append_left ms (own ∷ []) a k left in
          let e' = get_or_append_left rs (last ∷ []) b k (omega arith) in
          rw (e, e') (w.same k a b left))
          (λ right.
          let at : k ≡ length ms = omega arith in
          let e : get_or (ms ++ own ∷ []) k a ≡ own =
          ap (λ j. get_or (ms ++ own ∷ []) j a) at ∙ get_or-append_seam ms own [] a in
          let e' : get_or (rs ++ last ∷ []) k b ≡ last =
          ap (λ j. get_or (rs ++ last ∷ []) j b) (at ∙ sym m) ∙ get_or-append_seam rs last [] b in
          rw (e, e') same);
      sound = All-push IsSound rs last w.sound sound;
    }

-- what holds of all holds of all but the last
pub all_but_last : (P : Marker → Type 0) (ms : List Marker) (own : Marker)
    → All P (ms ++ own ∷ []) → All P ms
all_but_last P ms own h =
    subst (All P) (take-append_seam ms (own ∷ [])) (All-take P (length ms) (ms ++ own ∷ []) h)

-- and of the last
pub the_last : (P : Marker → Type 0) (ms : List Marker) (own : Marker)
    → All P (ms ++ own ∷ []) → P own
the_last P ms own h =
    let l = length-append ms (own ∷ []) in
    subst P (get_or-append_seam ms own [] own) (h (length ms) own (omega arith))

-- a list of no length is empty
pub empty_is : {A : Type 0} (xs : List A) → length xs ≡ 0 → xs ≡ []
empty_is [] e = refl
empty_is (x ∷ xs) e = absurd (omega arith)
