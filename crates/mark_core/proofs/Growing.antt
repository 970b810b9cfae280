-- A search, of which the targets of all before a place were seen.
use Rattle.std.proofs.Common.{◌≡◌, ℕ, ◌+◌, ◌-◌, ◌<◌, ◌≤◌, List, [], ◌∷◌, ◌++◌, Some, None, Option, length, get_or, refl, sym, ap, ◌∙◌, subst, inl, inr, arith}
use Rattle.std.specs.Prelude.{All, AllPairs, Contains}
use Rattle.std.proofs.Math.Decide.{dec_le}
use mathlib.Core.Logic.{dite}
use native.Mathlib.Decide.{ℕ_discrete}
use Rattle.std.proofs.lemmas.List.{length-append, get_or_append_left, get_or-append_right}
use Rattle.std.proofs.lemmas.List.Elements.{All-append, All-weaker, All-contains, Contains-append_left}
use Rattle.meta_types.specs.Walks.{IsWalk, end_of}
use Rattle.mark_core.specs.declared.graph.Graph.{Graph}
use Rattle.mark_core.specs.Reach.{rows, targets}
use Rattle.mark_core.specs.Seeing.{Seen}
use Rattle.mark_core.specs.Nearest.{IsStart}
use Rattle.mark_core.specs.Forests.{ComesFrom, Comes, Stands, IsForest}
use Rattle.mark_core.proofs.Seeings.{seen_there, IsAdded, Adds, get_or_any}

-- what was seen, nearest first; the starts are there, and the targets of each before the place, no
-- farther than a step
pub record Grown (g : Graph) (own held : List ℕ) (seen : List Seen) (next : ℕ) : Type 0 where
  pub comes : All (Comes g own held seen) seen
  pub rising : AllPairs (λ a b. a.depth ≤ b.depth) seen
  pub near : (d : Seen) → next < length seen → All (λ s. s.depth ≤ (get_or seen next d).depth + 1) seen
  pub low : All (λ s. s.depth ≤ next + 1) seen
  pub starts : (n cost : ℕ) → IsStart own held n cost → Stands seen n cost
  pub done : (k : ℕ) (d : Seen) (t : ℕ) → k < next → Contains (targets g (get_or seen k d).node) t → Stands seen t ((get_or seen k d).depth + 1)
  pub within : next ≤ length seen

-- ---- what longer lists keep

pub stands_more : (seen extra : List Seen) (n depth : ℕ) → Stands seen n depth → Stands (seen ++ extra) n depth
stands_more seen extra n depth s = (s.0, Contains-append_left seen extra s.0 s.1, s.2, s.3)

comes_from_more : (g : Graph) (own held : List ℕ) (seen extra : List Seen) (node depth : ℕ) (before : Option ℕ) → ComesFrom g own held seen node depth before → ComesFrom g own held (seen ++ extra) node depth before
comes_from_more g own held seen extra node depth None c = c
comes_from_more g own held seen extra node depth (Some p) c =
    let l = length-append seen extra in
    (c.0, omega (arith, c.1), get_or_append_left seen extra c.0 p c.1 ∙ c.2, c.3, c.4)

pub comes_more : (g : Graph) (own held : List ℕ) (seen extra : List Seen) → All (Comes g own held seen) seen → All (Comes g own held (seen ++ extra)) seen
comes_more g own held seen extra all = All-weaker (Comes g own held seen) (Comes g own held (seen ++ extra)) (λ s c. comes_from_more g own held seen extra s.node s.depth s.before c) seen all

-- a list that rises to a depth, and goes on at it, rises
pub rising_more : (seen extra : List Seen) (depth : ℕ) → AllPairs (λ a b. a.depth ≤ b.depth) seen → All (λ s. s.depth ≤ depth) seen → All (λ s. s.depth ≡ depth) extra → AllPairs (λ a b. a.depth ≤ b.depth) (seen ++ extra)
rising_more seen extra depth rising low same i j d lt inside =
    let l = length-append seen extra in
    dite (dec_le (length seen) j)
    (λ (right : length seen ≤ j).
    let e : get_or (seen ++ extra) j d ≡ get_or extra (j - length seen) d = get_or-append_right seen extra (length seen) j d refl right in
    let there : j - length seen < length extra = omega arith in
    let deep : (get_or (seen ++ extra) j d).depth ≡ depth = ap (λ (s : Seen). s.depth) e ∙ same (j - length seen) d there in
    dite (dec_le (length seen) i)
    (λ (also : length seen ≤ i).
    let e' : get_or (seen ++ extra) i d ≡ get_or extra (i - length seen) d = get_or-append_right seen extra (length seen) i d refl also in
    let deep' : (get_or (seen ++ extra) i d).depth ≡ depth = ap (λ (s : Seen). s.depth) e' ∙ same (i - length seen) d (omega arith) in
    omega arith)
    (λ (left : length seen ≤ i → ⊥).
    let here : i < length seen = omega arith in
    let e' : (get_or (seen ++ extra) i d).depth ≡ (get_or seen i d).depth = ap (λ (s : Seen). s.depth) (get_or_append_left seen extra d i here) in
    let b : (get_or seen i d).depth ≤ depth = low i d here in
    omega arith))
    (λ (left : length seen ≤ j → ⊥).
    let here : j < length seen = omega arith in
    let here' : i < length seen = omega arith in
    let e : (get_or (seen ++ extra) j d).depth ≡ (get_or seen j d).depth = ap (λ (s : Seen). s.depth) (get_or_append_left seen extra d j here) in
    let e' : (get_or (seen ++ extra) i d).depth ≡ (get_or seen i d).depth = ap (λ (s : Seen). s.depth) (get_or_append_left seen extra d i here') in
    let r : (get_or seen i d).depth ≤ (get_or seen j d).depth = rising i j d lt here in
    omega arith)

-- ---- the start

module _ (g : Graph) (own held : List ℕ) (first new : List Seen) (a : Adds None 0 [] own first) (b : Adds None 1 first held new) where
  firsts_at : All (λ s. s.depth ≡ 0) first
  firsts_at = subst (All (λ s. s.depth ≡ 0)) (sym a.is) (All-weaker (IsAdded None 0 own) (λ s. s.depth ≡ 0) (λ s h. h.deep) a.extra a.all)

  seconds_at : All (λ s. s.depth ≡ 1) b.extra
  seconds_at = All-weaker (IsAdded None 1 held) (λ s. s.depth ≡ 1) (λ s h. h.deep) b.extra b.all

  start_comes : (depth : ℕ) (s : Seen) → s.before ≡ None → IsStart own held s.node depth → s.depth ≡ depth → Comes g own held new s
  start_comes depth s none is deep = subst (ComesFrom g own held new s.node s.depth) (sym none) (subst (IsStart own held s.node) (sym deep) is)

  first_comes : All (Comes g own held new) first
  first_comes = subst (All (Comes g own held new)) (sym a.is) (All-weaker (IsAdded None 0 own) (Comes g own held new) (λ s h. start_comes 0 s h.from (inl (h.one, refl)) h.deep) a.extra a.all)

  second_comes : All (Comes g own held new) b.extra
  second_comes = All-weaker (IsAdded None 1 held) (Comes g own held new) (λ s h. start_comes 1 s h.from (inr (h.one, refl)) h.deep) b.extra b.all

  low_now : All (λ s. s.depth ≤ 1) new
  low_now = subst (All (λ s. s.depth ≤ 1)) (sym b.is) (All-append (λ s. s.depth ≤ 1) first b.extra (All-weaker (λ s. s.depth ≡ 0) (λ s. s.depth ≤ 1) (λ s h. omega arith) first firsts_at) (All-weaker (λ s. s.depth ≡ 1) (λ s. s.depth ≤ 1) (λ s h. omega arith) b.extra seconds_at))

  start_there : (n cost : ℕ) → IsStart own held n cost → Stands new n cost
  start_there n cost (inl (c, zero_cost)) =
      let s = seen_there n first (a.there n c) in
      let deep : s.0.depth ≡ 0 = All-contains (λ s. s.depth ≡ 0) first s.0 firsts_at s.1 in
      (s.0, subst (λ (l : List Seen). Contains l s.0) (sym b.is) (Contains-append_left first b.extra s.0 s.1), s.2, omega arith)
  start_there n cost (inr (c, one_cost)) =
      let s = seen_there n new (b.there n c) in
      let deep : s.0.depth ≤ 1 = All-contains (λ s. s.depth ≤ 1) new s.0 low_now s.1 in
      (s.0, s.1, s.2, omega arith)

  pub begun : Grown g own held new 0
  begun = record {
    comes = subst (All (Comes g own held new)) (sym b.is) (All-append (Comes g own held new) first b.extra first_comes second_comes);
    rising = subst (AllPairs (λ a b. a.depth ≤ b.depth)) (sym b.is)
        (rising_more first b.extra 1
        (λ i j d lt inside. let p = firsts_at i d (omega arith) in let q = firsts_at j d inside in omega arith)
        (All-weaker (λ s. s.depth ≡ 0) (λ s. s.depth ≤ 1) (λ s h. omega arith) first firsts_at) seconds_at);
    near = λ d h. All-weaker (λ s. s.depth ≤ 1) (λ s. s.depth ≤ (get_or new 0 d).depth + 1) (λ s p. omega arith) new low_now;
    low = low_now;
    starts = start_there;
    done = λ k d t h. absurd (omega arith);
    within = omega arith;
  }

-- ---- a step

module _ (g : Graph) (own held : List ℕ) (seen new : List Seen) (next : ℕ) (this : Seen) (inside : next < length seen) (is : get_or seen next this ≡ this)
    (e : Grown g own held seen next) (a : Adds (Some next) (this.depth + 1) seen (targets g this.node) new) where
  this_at : (d : Seen) → get_or seen next d ≡ this
  this_at d = get_or_any seen next d this inside ∙ is

  long : length new ≡ length seen + length a.extra
  long = ap length a.is ∙ length-append seen a.extra

  all_near : All (λ s. s.depth ≤ this.depth + 1) seen
  all_near = subst (λ (x : Seen). All (λ s. s.depth ≤ x.depth + 1) seen) is (e.near this inside)

  extra_deep : All (λ s. s.depth ≡ this.depth + 1) a.extra
  extra_deep = All-weaker (IsAdded (Some next) (this.depth + 1) (targets g this.node)) (λ s. s.depth ≡ this.depth + 1) (λ s h. h.deep) a.extra a.all

  new_near : All (λ s. s.depth ≤ this.depth + 1) new
  new_near = subst (All (λ s. s.depth ≤ this.depth + 1)) (sym a.is) (All-append (λ s. s.depth ≤ this.depth + 1) seen a.extra all_near (All-weaker (λ s. s.depth ≡ this.depth + 1) (λ s. s.depth ≤ this.depth + 1) (λ s h. omega arith) a.extra extra_deep))

  new_rising : AllPairs (λ a b. a.depth ≤ b.depth) new
  new_rising = subst (AllPairs (λ a b. a.depth ≤ b.depth)) (sym a.is) (rising_more seen a.extra (this.depth + 1) e.rising all_near extra_deep)

  new_at : (k : ℕ) (d : Seen) → k < length seen → get_or new k d ≡ get_or seen k d
  new_at k d h = ap (λ (l : List Seen). get_or l k d) a.is ∙ get_or_append_left seen a.extra d k h

  this_low : this.depth ≤ next + 1
  this_low = subst (λ (x : Seen). x.depth ≤ next + 1) is (e.low next this inside)

  extra_comes : All (Comes g own held new) a.extra
  extra_comes = All-weaker (IsAdded (Some next) (this.depth + 1) (targets g this.node)) (Comes g own held new) (λ s h. subst (ComesFrom g own held new s.node s.depth) (sym h.from) (this, omega (arith, long), new_at next this inside ∙ is, h.deep, h.one)) a.extra a.all

  keeps : (n depth : ℕ) → Stands seen n depth → Stands new n depth
  keeps n depth s = subst (λ (l : List Seen). Stands l n depth) (sym a.is) (stands_more seen a.extra n depth s)

  next_near : (d : Seen) → next + 1 < length new → All (λ s. s.depth ≤ (get_or new (next + 1) d).depth + 1) new
  next_near d h =
      let r : (get_or new next d).depth ≤ (get_or new (next + 1) d).depth = new_rising next (next + 1) d (omega arith) h in
      let t : (get_or new next d).depth ≡ this.depth = ap (λ (s : Seen). s.depth) (new_at next d inside ∙ this_at d) in
      All-weaker (λ s. s.depth ≤ this.depth + 1) (λ s. s.depth ≤ (get_or new (next + 1) d).depth + 1) (λ s p. omega arith) new new_near

  new_done : (k : ℕ) (d : Seen) (t : ℕ) → k < next + 1 → Contains (targets g (get_or new k d).node) t → Stands new t ((get_or new k d).depth + 1)
  new_done k d t h c =
      dite (ℕ_discrete k next)
      (λ (same : k ≡ next).
      let here : get_or new k d ≡ this = ap (λ (i : ℕ). get_or new i d) same ∙ new_at next d inside ∙ this_at d in
      let c' : Contains (targets g this.node) t = subst (λ (x : Seen). Contains (targets g x.node) t) here c in
      let s = seen_there t new (a.there t c') in
      let deep : s.0.depth ≤ this.depth + 1 = All-contains (λ s. s.depth ≤ this.depth + 1) new s.0 new_near s.1 in
      let q : (get_or new k d).depth ≡ this.depth = ap (λ (x : Seen). x.depth) here in
      (s.0, s.1, s.2, omega arith))
      (λ (other : k ≡ next → ⊥).
      let before : k < next = omega arith in
      let here : get_or new k d ≡ get_or seen k d = new_at k d (omega arith) in
      subst (λ (x : Seen). Stands new t (x.depth + 1)) (sym here) (keeps t ((get_or seen k d).depth + 1) (e.done k d t before (subst (λ (x : Seen). Contains (targets g x.node) t) here c))))

  pub grows : Grown g own held new (next + 1)
  grows = record {
    comes = subst (All (Comes g own held new)) (sym a.is) (All-append (Comes g own held new) seen a.extra (subst (λ (l : List Seen). All (Comes g own held l) seen) (sym a.is) (comes_more g own held seen a.extra e.comes)) extra_comes);
    rising = new_rising;
    near = next_near;
    low = All-weaker (λ s. s.depth ≤ this.depth + 1) (λ s. s.depth ≤ next + 1 + 1) (λ s p. let q = this_low in omega arith) new new_near;
    starts = λ n cost h. keeps n cost (e.starts n cost h);
    done = new_done;
    within = omega (arith, long);
  }

-- ---- the end

module _ (g : Graph) (own held : List ℕ) (seen : List Seen) (next : ℕ) (e : Grown g own held seen next) (over : length seen ≤ next) where
  along : (n depth : ℕ) (walk : List ℕ) → Stands seen n depth → IsWalk (rows g) n walk → Stands seen (end_of n walk) (depth + length walk)
  along n depth [] s w = (s.0, s.1, s.2, (let h = s.3 in omega arith))
  along n depth (b ∷ walk) s w =
      let k : ℕ = s.1.0 in
      let at : get_or seen k s.0 ≡ s.0 = s.1.2 in
      let edge : Contains (targets g (get_or seen k s.0).node) b = subst (λ x. Contains (targets g x) b) (sym (ap (λ (x : Seen). x.node) at ∙ s.2)) w.0 in
      let found : Stands seen b ((get_or seen k s.0).depth + 1) = e.done k s.0 b (let lt = s.1.1 in omega arith) edge in
      let deep : (get_or seen k s.0).depth ≡ s.0.depth = ap (λ (x : Seen). x.depth) at in
      let rest : Stands seen (end_of b walk) (depth + 1 + length walk) = along b (depth + 1) walk (found.0, found.1, found.2, (let p = found.3 in let q = s.3 in omega arith)) w.1 in
      (rest.0, rest.1, rest.2, (let p = rest.3 in omega arith))

  pub whole : IsForest g own held seen
  whole = record {
    comes = e.comes;
    rising = e.rising;
    nearest = λ start cost walk is w. along start cost walk (e.starts start cost is) w;
  }
