-- Events lead to one state, or have one first bad place.
use Rattle.std.proofs.Common.{◌≡◌, ℕ, zero, suc, ◌<◌, List, [], ◌∷◌, Some, take, refl, sym, ap, ◌∙◌, subst, arith}
use Rattle.mark_core.specs.declared.graph.Graph.{Graph}
use Rattle.mark_core.specs.declared.event.Hand.{Hand}
use Rattle.mark_core.specs.declared.event.MarkEvent.{MarkEvent}
use Rattle.mark_core.specs.declared.event.MarkEvent.TheVariants.{Look, Put, Take, Finish}
use Rattle.mark_core.specs.Machine.{Machine, Worker, Looks, Puts, Takes, Finishes, Step, Run, IsFirstBad}
use Rattle.mark_core.proofs.Walks.{within_get}

-- a state is its claimed nodes and its workers
same_machine : (a b : Machine) → a.claimed ≡ b.claimed → a.workers ≡ b.workers → a ≡ b
same_machine a b p q =
    let f : List ℕ → List Worker → Machine = λ c ws. record { claimed = c; workers = ws } in
    ap (λ c. f c a.workers) p ∙ ap (f b.claimed) q

-- the hand is one, so what the look makes of it is
looks_one : (g : Graph) (m : Machine) (w t : ℕ) (a b : Machine) → Looks g m w t a → Looks g m w t b
    → a ≡ b
looks_one g m w t a b s r =
    let h : s.hand ≡ r.hand = let e : Some s.hand ≡ Some r.hand = sym s.holds ∙ r.holds in cc in
    same_machine a b (s.claims ∙ sym r.claims) (cc (h, s.counts, r.counts))

-- the hand and the target that waits are one
puts_one : (m : Machine) (w : ℕ) (a b : Machine) → Puts m w a → Puts m w b → a ≡ b
puts_one m w a b s r =
    let h : s.hand ≡ r.hand = let e : Some s.hand ≡ Some r.hand = sym s.holds ∙ r.holds in cc in
    let e : Some s.target ≡ Some r.target =
    sym s.waits ∙ ap (λ (x : Hand). x.waits) h ∙ r.waits in
    let t : s.target ≡ r.target = cc in
    same_machine a b (s.claims ∙ sym r.claims) (cc (h, t, s.puts, r.puts))

-- the front of the queue and its rest are one
takes_one : (m : Machine) (w from : ℕ) (a b : Machine) → Takes m w from a → Takes m w from b → a ≡ b
takes_one m w from a b s r =
    let e : s.node ∷ s.front.0 ≡ r.node ∷ r.front.0 = sym s.front.1 ∙ r.front.1 in
    let n : s.node ≡ r.node = cc in
    let q : s.front.0 ≡ r.front.0 = cc in
    let mid : s.mid ≡ r.mid = cc (s.front.2, r.front.2, q) in
    same_machine a b (s.claims ∙ sym r.claims) (cc (n, mid, s.takes, r.takes))

-- the hand is one
finishes_one : (g : Graph) (m : Machine) (w : ℕ) (a b : Machine) → Finishes g m w a
    → Finishes g m w b → a ≡ b
finishes_one g m w a b s r =
    let h : s.hand ≡ r.hand = let e : Some s.hand ≡ Some r.hand = sym s.holds ∙ r.holds in cc in
    same_machine a b (s.claims ∙ sym r.claims) (cc (h, s.notes, r.notes))

-- so each event leads to one state
step_one : (g : Graph) (m : Machine) (event : MarkEvent) (a b : Machine) → Step g m event a
    → Step g m event b → a ≡ b
step_one g m (Look w t) a b s r = looks_one g m w t a b s r
step_one g m (Put w) a b s r = puts_one m w a b s r
step_one g m (Take w from) a b s r = takes_one m w from a b s r
step_one g m (Finish w) a b s r = finishes_one g m w a b s r

-- and so does a run, by its first event
pub run_one : (g : Graph) (m : Machine) (events : List MarkEvent) (a b : Machine) → Run g m events a
    → Run g m events b → a ≡ b
run_one g m [] a b s r = s ∙ sym r
run_one g m (event ∷ events) a b s r =
    let e : r.0 ≡ s.0 = step_one g m event r.0 s.0 r.1 s.1 in
    run_one g s.0 events a b s.2 (subst (λ x. Run g x events b) e r.2)

-- a run allows each event, the one that is not allowed too, which cannot be
pub run_not_bad : (g : Graph) (m : Machine) (events : List MarkEvent) (a : Machine) (place : ℕ)
    → Run g m events a → IsFirstBad g m events place → ⊥
run_not_bad g m [] a place r bad =
    absurd (let w : place < 0 = within_get [] place bad.0 bad.2 in omega arith)
run_not_bad g m (x ∷ events) a zero r bad =
    let e : x ≡ bad.0 = let p : Some x ≡ Some bad.0 = bad.2 in cc in
    bad.4 r.0 (subst (λ m. Step g m bad.0 r.0) (sym bad.3) (subst (λ y. Step g m y r.0) e r.1))
run_not_bad g m (x ∷ events) a (suc place) r bad =
    let e : bad.3.0 ≡ r.0 = step_one g m x bad.3.0 r.0 bad.3.1 r.1 in
    run_not_bad g r.0 events a place r.2
    (bad.0, bad.1, bad.2, subst (λ m. Run g m (take place events) bad.1) e bad.3.2, bad.4)

-- of two places the earlier would be allowed, in the run to the later
pub bad_one : (g : Graph) (m : Machine) (events : List MarkEvent) (p q : ℕ)
    → IsFirstBad g m events p → IsFirstBad g m events q → p ≡ q
bad_one g m [] p q b c = absurd (let w : p < 0 = within_get [] p b.0 b.2 in omega arith)
bad_one g m (x ∷ events) zero zero b c = refl
bad_one g m (x ∷ events) zero (suc q) b c =
    let e : x ≡ b.0 = let p : Some x ≡ Some b.0 = b.2 in cc in
    absurd
    (b.4 c.3.0 (subst (λ m. Step g m b.0 c.3.0) (sym b.3) (subst (λ y. Step g m y c.3.0) e c.3.1)))
bad_one g m (x ∷ events) (suc p) zero b c =
    let e : x ≡ c.0 = let p : Some x ≡ Some c.0 = c.2 in cc in
    absurd
    (c.4 b.3.0 (subst (λ m. Step g m c.0 b.3.0) (sym c.3) (subst (λ y. Step g m y b.3.0) e b.3.1)))
bad_one g m (x ∷ events) (suc p) (suc q) b c =
    let e : c.3.0 ≡ b.3.0 = step_one g m x c.3.0 b.3.0 c.3.1 b.3.1 in
    ap suc
    (bad_one g b.3.0 events p q (b.0, b.1, b.2, b.3.2, b.4)
    (c.0, c.1, c.2, subst (λ m. Run g m (take q events) c.1) e c.3.2, c.4))
