-- What a search has seen, told by nodes and depths alone.
use Rattle.std.proofs.Common.{◌≡◌, ℕ, zero, suc, ◌+◌, ◌<◌, ◌≤◌, List, [], ◌∷◌, ◌++◌, Bool, true, false, cond, Some, None, Option, length, get_or, refl, sym, ap, ◌∙◌, subst, eq-eqb, arith}
use Rattle.std.specs.Prelude.{◌==◌, if◌then◌else◌, Contains}
use Rattle.std.proofs.lemmas.List.{map-append}
use Rattle.std.proofs.lemmas.Bool.Decides.{nat_tests}
use Rattle.mark_core.proofs.Counts.{one_if}
use Rattle.mark_core.specs.Seeing.{Seen}
use Rattle.mark_core.specs.Depths.{depth_in, queued, KeepsDepths}
use Rattle.mark_core.specs.Firsts.{filled}
use Rattle.mark_core.specs.Seeing.{times_seen, is_seen, see, see_all}
use Rattle.mark_core.proofs.Seeings.{times_seen-cons, times_seen_push, seen_counted, get_or_any}

-- ---- one more

-- a node behind the others has its depth where it has none yet
pub depth_in-push : (seen : List Seen) (it : Seen) (n : ℕ)
    → depth_in (seen ++ it ∷ []) n ≡ filled (depth_in seen n) (it.node == n) it.depth
depth_in-push [] it n = refl
depth_in-push (s ∷ seen) it n = more (depth_in-push seen it n) (s.node == n)
  where
    more : depth_in (seen ++ it ∷ []) n ≡ filled (depth_in seen n) (it.node == n) it.depth
        → (same : Bool) → (if same then Some s.depth else depth_in (seen ++ it ∷ []) n)
        ≡ filled (if same then Some s.depth else depth_in seen n) (it.node == n) it.depth
    more rest true = refl
    more rest false = rest

-- a node without a depth wasn't seen
pub unseen : (seen : List Seen) (n : ℕ) → depth_in seen n ≡ None → times_seen n seen ≡ 0
unseen [] n e = refl
unseen (s ∷ seen) n e =
    let both = alone (s.node == n) e in
    let c = times_seen-cons n s seen in
    let h = unseen seen n both.1 in
    let o : one_if s.node n ≡ 0 = ap (λ b. cond b 1 0) both.0 in
    omega arith
  where
    alone : (same : Bool) → (if same then Some s.depth else depth_in seen n) ≡ None
        → (same ≡ false) × (depth_in seen n ≡ None)
    alone true h = absurd (cc h)
    alone false h = (refl, h)

-- a node with a depth was
pub was_seen : (seen : List Seen) (n depth : ℕ) → depth_in seen n ≡ Some depth
    → 0 < times_seen n seen
was_seen [] n depth e = absurd (cc e)
was_seen (s ∷ seen) n depth e = from (was_seen seen n depth) (s.node == n) refl e
  where
    from : (depth_in seen n ≡ Some depth → 0 < times_seen n seen)
        → (same : Bool) → same ≡ (s.node == n)
        → (if same then Some s.depth else depth_in seen n) ≡ Some depth
        → 0 < times_seen n (s ∷ seen)
    from rest true is h =
        let c = times_seen-cons n s seen in
        let o : one_if s.node n ≡ 1 = ap (λ b. cond b 1 0) (sym is) in
        omega arith
    from rest false is h =
        let c = times_seen-cons n s seen in
        let more = rest h in
        omega arith

-- ---- the queue and the depths go with what was seen

see_same : (seen : List Seen) (it : Seen) → 0 < times_seen it.node seen → see seen it ≡ seen
see_same seen it known = ap (λ b. cond b seen (seen ++ it ∷ [])) is
  where
    is : is_seen it.node seen ≡ true
    is = grind (arith, nat_tests)

see_push : (seen : List Seen) (it : Seen) → times_seen it.node seen ≡ 0
    → see seen it ≡ seen ++ it ∷ []
see_push seen it none = ap (λ b. cond b seen (seen ++ it ∷ [])) is
  where
    is : is_seen it.node seen ≡ false
    is = grind (arith, nat_tests)

module _ (seen : List Seen) (queue : List ℕ) (depths new : List (Option ℕ)) (it : Seen)
    (inside : it.node < length depths) (count : length new ≡ length depths)
    (tells : KeepsDepths seen queue depths)
    (each : (n : ℕ) → n < length depths
    → get_or new n None ≡ filled (get_or depths n None) (it.node == n) it.depth) where
  each_in : (n : ℕ) → n < length new
      → get_or new n None ≡ filled (depth_in seen n) (it.node == n) it.depth
  each_in n h =
      let h' : n < length depths = subst (λ l. n < l) count h in
      each n h' ∙ ap (λ o. filled o (it.node == n) it.depth) (tells.1 n h')

  -- where the node has a depth, no other gets one
  unchanged : (depth n : ℕ) → depth_in seen it.node ≡ Some depth
      → filled (depth_in seen n) (it.node == n) it.depth ≡ depth_in seen n
  unchanged depth n known = same (depth_in seen n) refl (it.node == n) refl
    where
      same : (o : Option ℕ) → o ≡ depth_in seen n → (b : Bool) → b ≡ (it.node == n)
          → filled o b it.depth ≡ o
      same (Some d) e b is = refl
      same None e false is = refl
      same None e true is = absurd (cc (e ∙ ap (depth_in seen) (sym here) ∙ known))
        where
          here : it.node ≡ n
          here = grind (arith, nat_tests)

  step : (o : Option ℕ) → o ≡ depth_in seen it.node
      → KeepsDepths (see seen it) (queued queue o it.node) new
  step (Some depth) e =
      subst (λ (l : List Seen). KeepsDepths l queue new)
      (sym (see_same seen it (was_seen seen it.node depth (sym e))))
      (tells.0, λ n h. each_in n h ∙ unchanged depth n (sym e))
  step None e =
      subst (λ (l : List Seen). KeepsDepths l (queue ++ it.node ∷ []) new)
      (sym (see_push seen it (unseen seen it.node (sym e)))) (
        ap (λ (q : List ℕ). q ++ it.node ∷ []) tells.0
            ∙ sym (map-append (λ (s : Seen). s.node) seen (it ∷ [])),
        λ n h. each_in n h ∙ sym (depth_in-push seen it n),
      )

  pub tells_more : KeepsDepths (see seen it) (queued queue (get_or depths it.node None) it.node) new
  tells_more =
      let e : get_or depths it.node None ≡ depth_in seen it.node = tells.1 it.node inside in
      subst (λ o. KeepsDepths (see seen it) (queued queue o it.node) new) (sym e)
      (step (depth_in seen it.node) refl)

-- ---- no node is seen twice

abbrev pub Once : List Seen → Type 0
Once seen = (n : ℕ) → times_seen n seen ≤ 1

pub once_see : (seen : List Seen) (it : Seen) → Once seen → Once (see seen it)
once_see seen it once = cases (depth_in seen it.node) refl
  where
    cases : (o : Option ℕ) → o ≡ depth_in seen it.node → Once (see seen it)
    cases (Some depth) e = subst Once (sym (see_same seen it (was_seen seen it.node depth (sym e)))) once
    cases None e = subst Once (sym (see_push seen it none)) pushed
      where
        none : times_seen it.node seen ≡ 0
        none = unseen seen it.node (sym e)

        by : (n : ℕ) (same : Bool) → same ≡ (it.node == n) → times_seen n seen + cond same 1 0 ≤ 1
        by n false is = let o = once n in omega arith
        by n true is = let z = subst (λ k. times_seen k seen ≡ 0) here none in omega arith
          where
            here : it.node ≡ n
            here = grind (arith, nat_tests)

        pushed : Once (seen ++ it ∷ [])
        pushed n =
            let t = times_seen_push n seen it in
            let b : times_seen n seen + one_if it.node n ≤ 1 = by n (it.node == n) refl in
            omega arith

pub once_all : (before : Option ℕ) (depth : ℕ) (seen : List Seen) (ns : List ℕ) → Once seen
    → Once (see_all before depth seen ns)
once_all before depth seen [] once = once
once_all before depth seen (n ∷ ns) once =
    let it : Seen = record { node = n; before = before; depth = depth } in
    once_all before depth (see seen it) ns (once_see seen it once)

once_tail : (s : Seen) (seen : List Seen) → Once (s ∷ seen) → Once seen
once_tail s seen once n = let c = times_seen-cons n s seen in let o = once n in omega arith

-- one behind another has its own depth
depth_behind : (s : Seen) (seen : List Seen) (x : Seen) → Once (s ∷ seen) → Contains seen x
    → depth_in seen x.node ≡ Some x.depth → (same : Bool) → same ≡ (s.node == x.node)
    → (if same then Some s.depth else depth_in seen x.node) ≡ Some x.depth
depth_behind s seen x once there rest false is = rest
depth_behind s seen x once there rest true is =
    let c = times_seen-cons x.node s seen in
    let one : one_if s.node x.node ≡ 1 = ap (λ b. cond b 1 0) (sym is) in
    let more : 0 < times_seen x.node seen = seen_counted x seen there in
    let o = once x.node in
    absurd (omega arith)

depth_first : (s : Seen) (seen : List Seen) (same : Bool) → same ≡ (s.node == s.node)
    → (if same then Some s.depth else depth_in seen s.node) ≡ Some s.depth
depth_first s seen true is = refl
depth_first s seen false is = absurd (cc (is ∙ eq-eqb s.node s.node refl))

-- so what stands at a place has the depth of its node
pub depth_in-at : (seen : List Seen) → Once seen → (k : ℕ) (d : Seen) → k < length seen
    → depth_in seen (get_or seen k d).node ≡ Some (get_or seen k d).depth
depth_in-at [] once k d h = absurd (omega arith)
depth_in-at (s ∷ seen) once zero d h = depth_first s seen (s.node == s.node) refl
depth_in-at (s ∷ seen) once (suc k) d h =
    let x : Seen = get_or seen k d in
    let there : Contains seen x = (k, omega arith, get_or_any seen k x d (omega arith)) in
    let rest : depth_in seen x.node ≡ Some x.depth =
    depth_in-at seen (once_tail s seen once) k d (omega arith) in
    depth_behind s seen x once there rest (s.node == x.node) refl
