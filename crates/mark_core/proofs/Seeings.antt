-- What a search has seen after one more node.
use Rattle.std.proofs.Common.{◌≡◌, ◌⊎◌, ℕ, zero, suc, ◌+◌, ◌<◌, List, [], ◌∷◌, ◌++◌, Bool, true, false, cond, length, get_or, map, refl, sym, ap, ◌∙◌, subst, inl, inr, arith}
use Rattle.std.specs.Prelude.{All, Contains, ◌==◌, Option}
use Rattle.std.proofs.lemmas.List.{append-nil, append_assoc}
use Rattle.std.proofs.lemmas.List.Sums.{sum_by-cons, sum_by-append, sum_by_push}
use Rattle.std.proofs.lemmas.List.Elements.{All-cons, All-nil, All-weaker, Contains-append_right}
use Rattle.std.proofs.lemmas.Bool.Decides.{nat_tests}
use Rattle.mark_core.specs.Bits.{times}
use Rattle.mark_core.proofs.Counts.{one_if, one_if_same, times-cons}
use Rattle.mark_core.specs.Seeing.{Seen}
use Rattle.mark_core.specs.Seeing.{times_seen, is_seen, see, see_all}

-- the nodes of a list
abbrev pub nodes : List Seen → List ℕ
nodes seen = map (λ s. s.node) seen

pub times_seen-cons : (n : ℕ) (s : Seen) (seen : List Seen) → times_seen n (s ∷ seen) ≡ one_if s.node n + times_seen n seen
times_seen-cons n s seen = sum_by-cons (λ (x : Seen). one_if x.node n) s seen

pub times_seen-append : (n : ℕ) (xs ys : List Seen) → times_seen n (xs ++ ys) ≡ times_seen n xs + times_seen n ys
times_seen-append n xs ys = sum_by-append (λ (x : Seen). one_if x.node n) xs ys

pub times_seen_push : (n : ℕ) (xs : List Seen) (s : Seen) → times_seen n (xs ++ s ∷ []) ≡ times_seen n xs + one_if s.node n
times_seen_push n xs s = sum_by_push (λ (x : Seen). one_if x.node n) xs s

-- the count is that of the nodes
pub times_nodes : (n : ℕ) (seen : List Seen) → times n (nodes seen) ≡ times_seen n seen
times_nodes n [] = refl
times_nodes n (s ∷ seen) =
    let a = times-cons n s.node (nodes seen) in
    let b = times_seen-cons n s seen in
    let c = times_nodes n seen in
    omega arith

-- what was seen stands there
pub seen_there : (n : ℕ) (seen : List Seen) → 0 < times_seen n seen → (s : Seen) × Contains seen s × (s.node ≡ n)
seen_there n [] h = absurd (omega arith)
seen_there n (s ∷ seen) h =
    elim (split (s.node == n)) [
      | inl knew ↦ (s, (0, omega arith, refl), same knew)
      | inr new ↦ (
          let a = times_seen-cons n s seen in
          let b : one_if s.node n ≡ 0 = ap (λ b. cond b 1 0) new in
          let c = seen_there n seen (omega arith) in
          (c.0, (suc c.1.0, omega arith, c.1.2), c.2))
    ]
  where
    split : (b : Bool) → (b ≡ true) ⊎ (b ≡ false)
    split true = inl refl
    split false = inr refl

    same : (s.node == n) ≡ true → s.node ≡ n
    same h = grind (arith, nat_tests)

-- ---- one more

true_or_false : (b : Bool) → (b ≡ true) ⊎ (b ≡ false)
true_or_false true = inl refl
true_or_false false = inr refl

-- a node that was seen changes nothing, another goes behind the others
pub see_cases : (seen : List Seen) (it : Seen) → ((see seen it ≡ seen) × (0 < times_seen it.node seen)) ⊎ (see seen it ≡ seen ++ it ∷ [])
see_cases seen it =
    elim (true_or_false (is_seen it.node seen)) [
      | inl knew ↦ inl (ap (λ b. cond b seen (seen ++ it ∷ [])) knew, known knew)
      | inr new ↦ inr (ap (λ b. cond b seen (seen ++ it ∷ [])) new)
    ]
  where
    known : is_seen it.node seen ≡ true → 0 < times_seen it.node seen
    known h = grind (arith, nat_tests)

-- ---- many more

-- one of these nodes, found from the place at the depth
pub record IsAdded (before : Option ℕ) (depth : ℕ) (ns : List ℕ) (s : Seen) : Type 0 where
  pub from : s.before ≡ before
  pub deep : s.depth ≡ depth
  pub one : Contains ns s.node

-- the list goes on with some of these nodes, and then has all of them
pub record Adds (before : Option ℕ) (depth : ℕ) (seen : List Seen) (ns : List ℕ) (new : List Seen) : Type 0 where
  pub extra : List Seen
  pub is : new ≡ seen ++ extra
  pub all : All (IsAdded before depth ns) extra
  pub there : (n : ℕ) → Contains ns n → 0 < times_seen n new

pub see_all-push : (before : Option ℕ) (depth : ℕ) (seen : List Seen) (ns : List ℕ) (n : ℕ) → see_all before depth seen (ns ++ n ∷ []) ≡ see (see_all before depth seen ns) (record { node = n; before = before; depth = depth })
see_all-push before depth seen [] n = refl
see_all-push before depth seen (k ∷ ns) n = see_all-push before depth (see seen (record { node = k; before = before; depth = depth })) ns n

module _ (before : Option ℕ) (depth : ℕ) where
  it : ℕ → Seen
  it n = record { node = n; before = before; depth = depth }

  wider : (n : ℕ) (ns : List ℕ) (extra : List Seen) → All (IsAdded before depth ns) extra → All (IsAdded before depth (n ∷ ns)) extra
  wider n ns extra all = All-weaker (IsAdded before depth ns) (IsAdded before depth (n ∷ ns)) (λ s a. record { from = a.from; deep = a.deep; one = Contains-append_right (n ∷ []) ns s.node a.one }) extra all

  one_of : (n k : ℕ) (ns : List ℕ) → Contains (k ∷ ns) n → (k ≡ n) ⊎ Contains ns n
  one_of n k ns (zero, lt, is) = inl is
  one_of n k ns (suc i, lt, is) = inr (i, omega arith, is)

  pub adds : (seen : List Seen) (ns : List ℕ) → Adds before depth seen ns (see_all before depth seen ns)
  adds seen [] = record { extra = []; is = sym (append-nil seen); all = All-nil (IsAdded before depth []); there = λ n c. absurd (omega arith) }
  adds seen (n ∷ ns) =
      elim (see_cases seen (record { node = n; before = before; depth = depth })) [
        | inl known ↦ (
            let a : Adds before depth seen ns (see_all before depth seen ns) = adds seen ns in
            subst (λ (l : List Seen). Adds before depth seen (n ∷ ns) (see_all before depth l ns)) (sym known.0)
            (record {
              extra = a.extra;
              is = a.is;
              all = wider n ns a.extra a.all;
              there = λ k c. elim (one_of k n ns c) [
                | inl same ↦ (let t = times_seen-append n seen a.extra in let e : times_seen n (see_all before depth seen ns) ≡ times_seen n (seen ++ a.extra) = ap (times_seen n) a.is in let p = known.1 in subst (λ x. 0 < times_seen x (see_all before depth seen ns)) same (omega arith))
                | inr rest ↦ a.there k rest
              ];
            }))
        | inr fresh ↦ (
            let this : Seen = record { node = n; before = before; depth = depth } in
            let a : Adds before depth (seen ++ this ∷ []) ns (see_all before depth (seen ++ this ∷ []) ns) = adds (seen ++ this ∷ []) ns in
            subst (λ (l : List Seen). Adds before depth seen (n ∷ ns) (see_all before depth l ns)) (sym fresh)
            (record {
              extra = this ∷ a.extra;
              is = a.is ∙ append_assoc seen (this ∷ []) a.extra;
              all = All-cons (IsAdded before depth (n ∷ ns)) this a.extra (record { from = refl; deep = refl; one = (0, omega arith, refl) }) (wider n ns a.extra a.all);
              there = λ k c. elim (one_of k n ns c) [
                | inl same ↦ (let t = times_seen-append n (seen ++ this ∷ []) a.extra in let u = times_seen_push n seen this in let o = one_if_same n in let e : times_seen n (see_all before depth (seen ++ this ∷ []) ns) ≡ times_seen n (seen ++ this ∷ [] ++ a.extra) = ap (times_seen n) a.is in subst (λ x. 0 < times_seen x (see_all before depth (seen ++ this ∷ []) ns)) same (omega arith))
                | inr rest ↦ a.there k rest
              ];
            }))
      ]

-- ---- places

-- within a list no default is read
pub get_or_any : (xs : List Seen) (k : ℕ) (d d' : Seen) → k < length xs → get_or xs k d ≡ get_or xs k d'
get_or_any [] k d d' h = absurd (omega arith)
get_or_any (x ∷ xs) zero d d' h = refl
get_or_any (x ∷ xs) (suc k) d d' h = get_or_any xs k d d' (omega arith)

-- what stands there was seen
pub seen_counted : (s : Seen) (seen : List Seen) → Contains seen s → 0 < times_seen s.node seen
seen_counted s [] c = absurd (let h = c.1 in omega arith)
seen_counted s (x ∷ seen) (zero, inside, e) =
    let a = times_seen-cons s.node x seen in
    let b : one_if x.node s.node ≡ 1 = ap (λ (y : Seen). one_if y.node s.node) e ∙ one_if_same s.node in
    omega arith
seen_counted s (x ∷ seen) (suc k, inside, e) =
    let a = times_seen-cons s.node x seen in
    let h : 0 < times_seen s.node seen = seen_counted s seen (k, omega arith, e) in
    omega arith
