-- A closed deque is drained, node by node.
use Rattle.std.proofs.Common.{◌≡◌, ℕ, ◌+◌, ◌<◌, ◌≤◌, List, [], ◌∷◌, ◌++◌, length, sym, ap, ◌∙◌, subst, append_assoc, arith}
use Rattle.std.specs.Prelude.{All, Contains}
use Rattle.std.proofs.lemmas.List.{length-append}
use Rattle.std.proofs.lemmas.List.Elements.{All-append, All-weaker, All-cons, All-nil, All-contains_itself}
use Rattle.mark_core.specs.declared.graph.Graph.{Graph}
use Rattle.mark_core.specs.Bits.{times}
use Rattle.mark_core.specs.Reach.{targets, node_count, IsInRange}
use Rattle.mark_core.proofs.Counts.{times-append, counted}
use Rattle.steal_mark.specs.declared.shared.deques.PassView.{PassView}
use Rattle.steal_mark.specs.declared.shared.claims.Claims.{Claims}
use Rattle.steal_mark.specs.Claiming.{claims, Knows}
use Rattle.steal_mark.specs.Dealing.{pass_view, Taken, Emptied}
use Rattle.steal_mark.specs.Growing.{Grows}
use Rattle.steal_mark.specs.Working.{Saw}
use Rattle.steal_mark.specs.Draining.{Drains, IsDry, DrainsAll}
use Rattle.steal_mark.proofs.Closing.{short}

-- the targets of one more node were seen
pub saw_more : (g : Graph) (seen nodes : List ℕ) (n : ℕ) → Saw g seen nodes → Saw g (seen ++ targets g n) (nodes ++ n ∷ [])
saw_more g seen nodes n s =
    let Q : ℕ → Type 0 = λ t. 0 < times t (seen ++ targets g n) in
    let P : ℕ → Type 0 = λ m. All Q (targets g m) in
    All-append P nodes (n ∷ [])
    (All-weaker (λ m. All (λ t. 0 < times t seen) (targets g m)) P (λ m h. All-weaker (λ t. 0 < times t seen) Q (λ t h'. let e = times-append t seen (targets g n) in omega arith) (targets g m) h) nodes s)
    (All-cons P n [] (All-weaker (Contains (targets g n)) Q (λ t c. let e = times-append t seen (targets g n) in let h = counted t (targets g n) c in omega arith) (targets g n) (All-contains_itself (targets g n))) (All-nil P))

module _ (g : Graph) (count : ℕ) (v w : Claims) (a b : PassView) (old new : List ℕ) (d : Drains g count v w a b old new) where
  pub same_graph : b.graph ≡ a.graph
  same_graph = ap (λ (h : PassView). h.graph) d.deque

  -- draining leaves the deque its parts
  pub same_parts : b.parts ≡ a.parts
  same_parts = ap (λ (h : PassView). h.parts) d.deque

  -- who has every part finds the deque empty only once all is taken
  pub drains_dry : (b' : PassView) (new' : List ℕ) → a.parts ≡ 1024 → b' ≡ b → Emptied b → new' ≡ new → DrainsAll g v w a b' old new'
  drains_dry b' new' all is e l = (
    (count, record { more = d.more; looks = d.looks; drained = d.drained; seat = d.seat; deque = is ∙ d.deque; list = l ∙ d.list; saw = d.saw; many = d.many }),
    subst IsDry (sym is) (e (same_parts ∙ all)),
  )

  -- one node more is taken, scanned and listed
  pub drains_more : (n : ℕ) (ts : List ℕ) (w' : Claims) (b1 b2 : PassView) (new' : List ℕ) → Taken b (n ∷ []) b1 → Grows ts w w' b1 b2 → ts ≡ targets g n → new' ≡ new ++ n ∷ [] → Drains g (count + 1) v w' a b2 old new'
  drains_more n ts w' b1 b2 new' t grown is l = record {
    more = d.more ++ grown.more;
    looks = d.looks ++ ts;
    drained = d.drained ++ n ∷ [];
    seat = grown.seat ∙ ap (λ (x : Claims). claims x.parts (x.claimed ++ grown.more) (x.seen ++ ts)) d.seat ∙ (λ i. claims v.parts (append_assoc v.claimed d.more grown.more i) (append_assoc v.seen d.looks ts i));
    deque = grown.deque ∙ ap (λ (x : PassView). pass_view x.parts x.graph (x.pushed ++ grown.more) x.taken) (t.0 ∙ ap (λ (x : PassView). pass_view x.parts x.graph x.pushed (x.taken ++ n ∷ [])) d.deque)
        ∙ (λ i. pass_view a.parts a.graph (append_assoc a.pushed d.more grown.more i) (append_assoc a.taken d.drained (n ∷ []) i));
    list = l ∙ ap (λ x. x ++ n ∷ []) d.list ∙ append_assoc old d.drained (n ∷ []);
    saw = subst (λ x. Saw g (d.looks ++ x) (d.drained ++ n ∷ [])) (sym is) (saw_more g d.looks d.drained n d.saw);
    many = let e = length-append d.drained (n ∷ []) in let m = d.many in omega arith;
  }

  -- it can't go on for longer than the graph has nodes
  pub ends : IsInRange g → Knows g w → ((n : ℕ) → times n b.taken ≤ times n b.pushed) → ((n : ℕ) → times n a.pushed ≤ times n v.claimed) → count ≤ node_count g
  ends range k less backed =
      let s : length d.drained ≤ node_count g = short g w d.drained k range (λ n.
      let e1 : times n b.taken ≡ times n (a.taken ++ d.drained) = ap (λ (h : PassView). times n h.taken) d.deque in
      let e2 : times n b.pushed ≡ times n (a.pushed ++ d.more) = ap (λ (h : PassView). times n h.pushed) d.deque in
      let e3 : times n w.claimed ≡ times n (v.claimed ++ d.more) = ap (λ (h : Claims). times n h.claimed) d.seat in
      let f1 = times-append n a.taken d.drained in let f2 = times-append n a.pushed d.more in let f3 = times-append n v.claimed d.more in
      let x = less n in let y = backed n in
      omega arith) in
      let m = d.many in omega arith
