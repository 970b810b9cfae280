-- Where numbers fall along parents, the ancestors of a snapshot are all there: the parent of an
-- ancestor is one, and a child is deeper than its parent.
use Rattle.std.proofs.Common.{◌≡◌, ℕ, zero, suc, ◌<◌, ◌≤◌, true, List, [], ◌∷◌, length, refl, sym, ap, ◌∙◌, arith, subst, inl, inr}
use Rattle.std.specs.Prelude.{AllPairs, Contains, filter, find, nat_lt, Option, Some, None, IsTrue, option_and_then, bytes_eq, ◌&&◌}
use Rattle.std.specs.Option.{option_map_or}
use Rattle.std.specs.Ordering.{is_lt, ordering_reverse}
use Rattle.std.specs.declared.cmp.Ordering.{Ordering}
use Rattle.std.specs.declared.cmp.Ordering.TheVariants.{Less, Equal, Greater}
use Rattle.std.proofs.lemmas.Cmp.{nat_list_cmp_total}
use Rattle.std.proofs.lemmas.Bool.{or_cases, and_parts, ltb-true, lt-ltb, false_from_ne_true}
use Rattle.meta_types.specs.Text.{Text, text_cmp}
use Rattle.meta_types.specs.Rows.{BackSnap}
use Rattle.meta_types.specs.Backends.{is_named, ancestors, ancestors_of, depth_of}
use Rattle.meta_types.specs.Changes.{stands_before}
use Rattle.meta_types.proofs.Members.{here, later, first_or_later, none_in_nothing}
use Rattle.meta_types.proofs.Filtered.{all_stay}
use Rattle.meta_types.proofs.ListSearches.{no_none, none_or_some, found_is, one_item, no_more, fewer}

-- ---- names are apart

-- no text stands before itself
text_not_before_itself : (s : Text) → is_lt (text_cmp s s) ≡ true → ⊥
text_not_before_itself s h = go (text_cmp s s) (nat_list_cmp_total.antisymm s s) h
  where
    go : (r : Ordering) → r ≡ ordering_reverse r → is_lt r ≡ true → ⊥
    go Less e h = absurd cc
    go Equal e h = absurd cc
    go Greater e h = absurd cc

-- no snapshot stands before one of its name
not_before : (a b : BackSnap) → a.snapshotter ≡ b.snapshotter → a.number ≡ b.number → stands_before a b ≡ true → ⊥
not_before a b s n h = elim (or_cases (is_lt (text_cmp a.snapshotter b.snapshotter)) (bytes_eq a.snapshotter b.snapshotter && nat_lt a.number b.number) h) [
  | inl before ↦ text_not_before_itself b.snapshotter (subst (λ (t : Text). is_lt (text_cmp t b.snapshotter) ≡ true) s before)
  | inr same ↦ (
      let less = ltb-true a.number b.number (and_parts (bytes_eq a.snapshotter b.snapshotter) (nat_lt a.number b.number) same).1 in
      absurd (omega (arith, less, n)))
]

-- two snapshots of one name are one
pub one_object : (shards : List BackSnap) → AllPairs (λ a b. IsTrue (stands_before a b)) shards → (a b : BackSnap) → Contains shards a → Contains shards b → a.snapshotter ≡ b.snapshotter → a.number ≡ b.number → a ≡ b
one_object shards o a b ca cb s n = one_item (λ x y. IsTrue (stands_before x y)) shards o a b ca cb (not_before a b s n) (not_before b a (sym s) (sym n))

-- ---- ancestors

-- the parent's object
abbrev pub object_above : List BackSnap → BackSnap → Option BackSnap
object_above shards snap = option_and_then (λ number. find (is_named (snap.snapshotter, number)) shards) snap.parent

module _ (shards : List BackSnap) where
  abbrev list_above : ℕ → Option BackSnap → List BackSnap
  list_above most above = option_map_or (λ (snap : BackSnap). snap ∷ ancestors most shards snap) above []

  -- the ancestors are the parent and its ancestors, or none
  first_above : (most : ℕ) (snap above : BackSnap) → object_above shards snap ≡ Some above → ancestors (suc most) shards snap ≡ above ∷ ancestors most shards above
  first_above most snap above e = ap (list_above most) e

  none_above : (most : ℕ) (snap : BackSnap) → object_above shards snap ≡ None → ancestors (suc most) shards snap ≡ []
  none_above most snap e = ap (list_above most) e

  -- the parent's object is one of the backend
  above_there : (snap above : BackSnap) → object_above shards snap ≡ Some above → Contains shards above
  above_there snap above = go snap.parent
    where
      go : (o : Option ℕ) → option_and_then (λ number. find (is_named (snap.snapshotter, number)) shards) o ≡ Some above → Contains shards above
      go None e = no_none above e
      go (Some number) e = (found_is (is_named (snap.snapshotter, number)) shards above e).0

  -- ancestors are snapshots of the backend
  pub ancestor_there : (most : ℕ) (snap x : BackSnap) → Contains (ancestors most shards snap) x → Contains shards x
  ancestor_there zero snap x c = none_in_nothing x c
  ancestor_there (suc most) snap x c = elim (none_or_some (object_above shards snap)) [
    | inl none ↦ none_in_nothing x (subst (λ (l : List BackSnap). Contains l x) (none_above most snap none) c)
    | inr some ↦ elim (first_or_later some.0 (ancestors most shards some.0) x (subst (λ (l : List BackSnap). Contains l x) (first_above most snap some.0 some.1) c)) [
      | inl same ↦ subst (Contains shards) same (above_there snap some.0 some.1)
      | inr more ↦ ancestor_there most some.0 x more
    ]
  ]

  -- the parent is an ancestor where at least one is looked for
  pub parent_is_ancestor : (most : ℕ) (snap above : BackSnap) → 0 < most → object_above shards snap ≡ Some above → Contains (ancestors most shards snap) above
  parent_is_ancestor zero snap above lt e = absurd (omega (arith, lt))
  parent_is_ancestor (suc most) snap above lt e = subst (λ (l : List BackSnap). Contains l above) (sym (first_above most snap above e)) (here above (ancestors most shards above))

  -- how many snapshots have a smaller number
  abbrev smaller : ℕ → ℕ
  smaller n = length (filter (λ (snap : BackSnap). nat_lt snap.number n) shards)

  -- below a smaller number there are fewer
  fewer_below : (x : BackSnap) (n : ℕ) → Contains shards x → x.number < n → smaller x.number < smaller n
  fewer_below x n c lt = fewer (λ (snap : BackSnap). nat_lt snap.number x.number) (λ (snap : BackSnap). nat_lt snap.number n)
      (λ snap h. (let less = ltb-true snap.number x.number h in lt-ltb snap.number n (omega (arith, less, lt)))) shards x c
      (false_from_ne_true (nat_lt x.number x.number) (λ h. (let less = ltb-true x.number x.number h in absurd (omega (arith, less))))) (lt-ltb x.number n lt)

  module _ (falls : (snap above : BackSnap) → Contains shards snap → object_above shards snap ≡ Some above → above.number < snap.number) where
    -- the parent of an ancestor is an ancestor
    pub ancestors_closed : (most : ℕ) (snap x y : BackSnap) → Contains shards snap → smaller snap.number ≤ most → Contains (ancestors most shards snap) x → object_above shards x ≡ Some y → Contains (ancestors most shards snap) y
    ancestors_closed zero snap x y c few ca e = none_in_nothing x ca
    ancestors_closed (suc most) snap x y c few ca e = elim (none_or_some (object_above shards snap)) [
      | inl none ↦ none_in_nothing x (subst (λ (l : List BackSnap). Contains l x) (none_above most snap none) ca)
      | inr some ↦ (
          let there = above_there snap some.0 some.1 in
          let less = fewer_below some.0 snap.number there (falls snap some.0 c some.1) in
          let fewer_most : smaller some.0.number ≤ most = omega (arith, less, few) in
          subst (λ (l : List BackSnap). Contains l y) (sym (first_above most snap some.0 some.1))
          (later some.0 (ancestors most shards some.0) y
          (elim (first_or_later some.0 (ancestors most shards some.0) x (subst (λ (l : List BackSnap). Contains l x) (first_above most snap some.0 some.1) ca)) [
            | inl same ↦ (
                let e : object_above shards some.0 ≡ Some y = ap (object_above shards) same ∙ e in
                let one = fewer_below y some.0.number (above_there some.0 y e) (falls some.0 y there e) in
                parent_is_ancestor most some.0 y (omega (arith, one, fewer_most)) e)
            | inr more ↦ ancestors_closed most some.0 x y there fewer_most more e
          ])))
    ]

    -- there are at most as many smaller ones as snapshots
    short : (n : ℕ) (xs : List BackSnap) → length (filter (λ (snap : BackSnap). nat_lt snap.number n) xs) ≤ length xs
    short n xs = (let h = no_more (λ (snap : BackSnap). nat_lt snap.number n) (λ (snap : BackSnap). true) (λ snap h. refl) xs in let e = ap (λ (l : List BackSnap). length l) (all_stay xs) in omega (arith, h, e))

    -- so among all ancestors
    pub all_ancestors : (snap x y : BackSnap) → Contains shards snap → Contains (ancestors_of shards snap) x → object_above shards x ≡ Some y → Contains (ancestors_of shards snap) y
    all_ancestors snap x y c ca e = ancestors_closed (length shards) snap x y c (short snap.number shards) ca e

    -- one more is looked for in vain where there are no more
    enough : (most : ℕ) (snap : BackSnap) → Contains shards snap → smaller snap.number ≤ most → ancestors (suc most) shards snap ≡ ancestors most shards snap
    enough zero snap c few = elim (none_or_some (object_above shards snap)) [
      | inl none ↦ ap (list_above zero) none
      | inr some ↦ (
          let less = fewer_below some.0 snap.number (above_there snap some.0 some.1) (falls snap some.0 c some.1) in
          absurd (omega (arith, less, few)))
    ]
    enough (suc most) snap c few = elim (none_or_some (object_above shards snap)) [
      | inl none ↦ ap (list_above (suc most)) none ∙ sym (ap (list_above most) none)
      | inr some ↦ (
          let there = above_there snap some.0 some.1 in
          let less = fewer_below some.0 snap.number there (falls snap some.0 c some.1) in
          ap (list_above (suc most)) some.1 ∙ ap (λ (l : List BackSnap). some.0 ∷ l) (enough most some.0 there (omega (arith, less, few))) ∙ sym (ap (list_above most) some.1))
    ]

    -- a child is deeper than its parent
    pub deeper : (snap above : BackSnap) → Contains shards snap → object_above shards snap ≡ Some above → depth_of shards above < depth_of shards snap
    deeper snap above c e = go (length shards) refl
      where
        go : (most : ℕ) → length shards ≡ most → depth_of shards above < depth_of shards snap
        go zero is = absurd (omega (arith, c.1, is))
        go (suc most) is =
            let less = fewer_below above snap.number (above_there snap above e) (falls snap above c e) in
            let all_short = short snap.number shards in
            let this : ancestors_of shards snap ≡ above ∷ ancestors most shards above = ap (λ (k : ℕ). ancestors k shards snap) is ∙ ap (list_above most) e in
            let that : ancestors_of shards above ≡ ancestors most shards above = ap (λ (k : ℕ). ancestors k shards above) is ∙ enough most above (above_there snap above e) (omega (arith, less, all_short, is)) in
            let a = ap (λ (l : List BackSnap). length l) this in
            let b = ap (λ (l : List BackSnap). length l) that in
            omega (arith, a, b)
