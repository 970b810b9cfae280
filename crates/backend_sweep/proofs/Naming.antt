-- The names of removed objects, in a report's order, are those of each shard with children first.
use Rattle.std.proofs.Common.{◌≡◌, ℕ, zero, suc, ◌<◌, ◌≤◌, List, [], ◌∷◌, ◌++◌, map, length, Bool, true, false, refl, sym, ◌∙◌, ap, subst, inl, inr, arith}
use Rattle.std.specs.Prelude.{All, AllPairs, Option, Some, None, IsSome, IsTrue, bytes_eq, find, filter, option_map, option_and_then, Contains, nat_lt, ◌==◌, ◌&&◌, ◌||◌}
use Rattle.std.specs.List.{list_any}
use Rattle.std.specs.Option.{option_map_or}
use Rattle.std.specs.Ordering.{is_lt}
use Rattle.std.specs.FinMap as finmap
use Rattle.std.proofs.lemmas.Bool.{cases_Bool, or_cases, or_left, or_right, and_parts, and_from, both_ways, ltb-true, lt-ltb, false_from_ne_true}
use Rattle.std.proofs.lemmas.Bool.Decides.{Decides-eqb}
use Rattle.std.proofs.lemmas.Cmp.{tied_itself}
use Rattle.std.specs.Cmp.Lexicographic.{nat_list_cmp_total}
use Rattle.std.proofs.lemmas.List.Elements.{All-contains}
use Rattle.std.proofs.lemmas.Slice.Eq.{bytes_eq-Decides}
use Rattle.meta_types.specs.Text.{Text, text_cmp}
use Rattle.meta_types.specs.Rows.{BackSnap}
use Rattle.meta_types.specs.Keys.{in_order}
use Rattle.meta_types.specs.Changes.{stands_before}
use Rattle.meta_types.specs.Backends.{is_named, object_name, ancestors, ancestors_of, depth_of, goes_before}
use Rattle.meta_types.proofs.Members.{here, first_or_later, in_filter, from_filter, any_from, found_by_any}
use Rattle.meta_types.proofs.ListSearches.{finds, none_or_some, no_none, found_is, fewer, no_more}
use Rattle.meta_types.proofs.Filtered.{all_stay}
use Rattle.meta_types.proofs.Falling.{one_object, object_above}
use Rattle.back_model.specs.Snaps.{Snaps}
use Rattle.back_model.specs.Shown.{Shard, AreApart, snaps_at, back_snap, all_snaps}
use Rattle.backend_sweep.specs.Shards.{IsChild, IsHeld, IsAbove, has, numbers_of}
use Rattle.backend_sweep.specs.Sweep.{Childfirst}
use Rattle.backend_sweep.proofs.Ancestry.{found, stands}
use Rattle.backend_sweep.proofs.Sorting.{Ascends, AllBehind, order_ascends}
use Rattle.backend_sweep.proofs.Pairing.{in_front, in_back, in_part, Each, Pairs, each_from, pairs_front, pairs_back, pairs_filter, pairs_order, Split, split, any_of_images}
use Rattle.meta_types.proofs.Sorted.{in_ordered, ordered_has}

-- ---- numbers of what is in a list

abbrev numbers : List BackSnap → List ℕ
numbers xs = map (λ (x : BackSnap). x.number) xs

has_of : (xs : List BackSnap) (z : BackSnap) → Contains xs z → has (numbers xs) z.number ≡ true
has_of xs z c = any_of_images (λ (x : BackSnap). x.number) (λ k. k == z.number) xs ∙ any_from (λ (x : BackSnap). x.number == z.number) xs z c ((Decides-eqb z.number z.number).1 refl)

of_has : (xs : List BackSnap) (n : ℕ) → has (numbers xs) n ≡ true → (z : BackSnap) × Contains xs z × (z.number ≡ n)
of_has xs n h =
    let f = found_by_any (λ (x : BackSnap). x.number == n) xs (sym (any_of_images (λ (x : BackSnap). x.number) (λ k. k == n) xs) ∙ h) in
    (f.0, f.1, (Decides-eqb f.0.number n).0 f.2)

-- the numbers of one snapshotter's names
numbers_named : (s : Text) (xs : List BackSnap) → numbers_of s (map object_name xs) ≡ numbers (filter (λ (x : BackSnap). bytes_eq x.snapshotter s) xs)
numbers_named s [] = refl
numbers_named s (x ∷ xs) = elim (cases_Bool (bytes_eq x.snapshotter s)) [
  | inl t ↦ rw t (ap (λ (l : List ℕ). x.number ∷ l) (numbers_named s xs))
  | inr f ↦ rw f (numbers_named s xs)
]

-- ---- orders as pairs

module _ {X : Type 0} (before : X → X → Bool) (asymmetric : (x y : X) → before x y ≡ true → before y x ≡ false)
    (chain : (x y z : X) → before x y ≡ false → before y z ≡ false → before x z ≡ false) where
  behind_each : (x : X) (xs : List X) → AllBehind before asymmetric chain x xs → Each (λ (a b : X). before b a ≡ false) x xs
  behind_each x [] h = tt
  behind_each x (y ∷ ys) h = (h.0, behind_each x ys h.1)

  ascends_pairs : (xs : List X) → Ascends before asymmetric chain xs → Pairs (λ (a b : X). before b a ≡ false) xs
  ascends_pairs [] h = tt
  ascends_pairs (x ∷ xs) h = (behind_each x xs h.0, ascends_pairs xs h.1)

  pub order_pairs : (xs : List X) → Pairs (λ (a b : X). before b a ≡ false) (in_order before xs)
  order_pairs xs = ascends_pairs (in_order before xs) (order_ascends before asymmetric chain xs)

-- ---- depths

there_above : (all : List BackSnap) (snap above : BackSnap) → object_above all snap ≡ Some above → Contains all above
there_above all snap above = go snap.parent
  where
    go : (o : Option ℕ) → option_and_then (λ number. find (is_named (snap.snapshotter, number)) all) o ≡ Some above → Contains all above
    go None e = no_none above e
    go (Some number) e = (found_is (is_named (snap.snapshotter, number)) all above e).0

module _ (all : List BackSnap) (falls : (snap above : BackSnap) → Contains all snap → object_above all snap ≡ Some above → above.number < snap.number) where
  abbrev list_above : ℕ → Option BackSnap → List BackSnap
  list_above most above = option_map_or (λ (snap : BackSnap). snap ∷ ancestors most all snap) above []

  abbrev smaller : ℕ → ℕ
  smaller n = length (filter (λ (snap : BackSnap). nat_lt snap.number n) all)

  fewer_below : (x : BackSnap) (n : ℕ) → Contains all x → x.number < n → smaller x.number < smaller n
  fewer_below x n c lt = fewer (λ (snap : BackSnap). nat_lt snap.number x.number) (λ (snap : BackSnap). nat_lt snap.number n)
      (λ snap h. (let less = ltb-true snap.number x.number h in lt-ltb snap.number n (omega (arith, less, lt)))) all x c
      (false_from_ne_true (nat_lt x.number x.number) (λ h. (let less = ltb-true x.number x.number h in absurd (omega (arith, less))))) (lt-ltb x.number n lt)

  -- one more is looked for in vain where there are no more
  enough : (most : ℕ) (snap : BackSnap) → Contains all snap → smaller snap.number ≤ most → ancestors (suc most) all snap ≡ ancestors most all snap
  enough zero snap c few = elim (none_or_some (object_above all snap)) [
    | inl none ↦ ap (list_above zero) none
    | inr some ↦ (
        let less = fewer_below some.0 snap.number (there_above all snap some.0 some.1) (falls snap some.0 c some.1) in
        absurd (omega (arith, less, few)))
  ]
  enough (suc most) snap c few = elim (none_or_some (object_above all snap)) [
    | inl none ↦ ap (list_above (suc most)) none ∙ sym (ap (list_above most) none)
    | inr some ↦ (
        let there = there_above all snap some.0 some.1 in
        let less = fewer_below some.0 snap.number there (falls snap some.0 c some.1) in
        ap (list_above (suc most)) some.1 ∙ ap (λ (l : List BackSnap). some.0 ∷ l) (enough most some.0 there (omega (arith, less, few))) ∙ sym (ap (list_above most) some.1))
  ]

  short : (n : ℕ) (xs : List BackSnap) → length (filter (λ (s : BackSnap). nat_lt s.number n) xs) ≤ length xs
  short n xs = (let h = no_more (λ (s : BackSnap). nat_lt s.number n) (λ (s : BackSnap). true) (λ s h. refl) xs in let e = ap (λ (l : List BackSnap). length l) (all_stay xs) in omega (arith, h, e))

  -- a child is one deeper than its parent
  pub deeper : (snap above : BackSnap) → Contains all snap → object_above all snap ≡ Some above → depth_of all above < depth_of all snap
  deeper snap above c e = go (length all) refl
    where
      go : (most : ℕ) → length all ≡ most → depth_of all above < depth_of all snap
      go zero is = absurd (omega (arith, c.1, is))
      go (suc most) is =
          let less = fewer_below above snap.number (there_above all snap above e) (falls snap above c e) in
          let all_short = short snap.number all in
          let this : ancestors_of all snap ≡ above ∷ ancestors most all above = ap (λ (k : ℕ). ancestors k all snap) is ∙ ap (list_above most) e in
          let that : ancestors_of all above ≡ ancestors most all above = ap (λ (k : ℕ). ancestors k all above) is ∙ enough most above (there_above all snap above e) (omega (arith, less, all_short, is)) in
          let a = ap (λ (l : List BackSnap). length l) this in
          let b = ap (λ (l : List BackSnap). length l) that in
          omega (arith, a, b)

-- ---- names

-- what the names of a sweep have to meet: they are those of all that pass, in the order of a report
pub record Named (olds : List Shard) (goes : BackSnap → Bool) (names : List (Text × ℕ)) : Type 0 where
  pub apart : AreApart olds
  pub ordered : AllPairs (λ a b. IsTrue (stands_before a b)) (all_snaps olds)
  pub falls : (snap above : BackSnap) → Contains (all_snaps olds) snap → Contains (all_snaps olds) above → IsAbove above snap → above.number < snap.number
  pub names_are : names ≡ map object_name (in_order (goes_before (all_snaps olds)) (filter goes (all_snaps olds)))
  pub one_way : (x y : BackSnap) → goes_before (all_snaps olds) x y ≡ true → goes_before (all_snaps olds) y x ≡ false
  pub chain : (x y z : BackSnap) → goes_before (all_snaps olds) x y ≡ false → goes_before (all_snaps olds) y z ≡ false → goes_before (all_snaps olds) x z ≡ false

module _ (olds : List Shard) (goes : BackSnap → Bool) (names : List (Text × ℕ)) (named : Named olds goes names) (s : Text) where
  abbrev all : List BackSnap
  all = all_snaps olds

  abbrev m : Snaps
  m = snaps_at s olds

  abbrev those : List BackSnap
  those = filter (λ (x : BackSnap). bytes_eq x.snapshotter s) (in_order (goes_before all) (filter goes all))

  pub numbers_are : numbers_of s names ≡ numbers those
  numbers_are = ap (numbers_of s) named.names_are ∙ numbers_named s (in_order (goes_before all) (filter goes all))

  -- the parent that is found is above
  found_above : (snap above : BackSnap) → object_above all snap ≡ Some above → IsAbove above snap
  found_above snap above = go snap.parent
    where
      go : (o : Option ℕ) → option_and_then (λ number. find (is_named (snap.snapshotter, number)) all) o ≡ Some above → (above.snapshotter ≡ snap.snapshotter) × (o ≡ Some above.number)
      go None e = no_none above e
      go (Some number) e = (
          let is = and_parts (bytes_eq above.snapshotter snap.snapshotter) (above.number == number) (found_is (is_named (snap.snapshotter, number)) all above e).1 in
          ((bytes_eq-Decides above.snapshotter snap.snapshotter).0 is.0, ap (λ (k : ℕ). Some k) (sym ((Decides-eqb above.number number).0 is.1))))

  pub falls_found : (snap above : BackSnap) → Contains all snap → object_above all snap ≡ Some above → above.number < snap.number
  falls_found snap above c e = named.falls snap above c (there_above all snap above e) (found_above snap above e)

  -- what the list has of this snapshotter, the shard has
  pub member_is : (x : BackSnap) → Contains all x → x.snapshotter ≡ s → finmap.get m x.number ≡ Some x.parent
  member_is x c e = elim (none_or_some (finmap.get m x.number)) [
    | inl none ↦ (
        let any : list_any (is_named (s, x.number)) all ≡ true = any_from (is_named (s, x.number)) all x c (and_from (bytes_eq x.snapshotter s) (x.number == x.number) ((bytes_eq-Decides x.snapshotter s).1 e) ((Decides-eqb x.number x.number).1 refl)) in
        let there = finds (is_named (s, x.number)) all any in
        no_none there.0 (sym (ap (option_map (λ q. back_snap s (x.number, q))) none) ∙ sym (found olds named.apart s m refl x.number) ∙ there.1))
    | inr some ↦ (
        let one = one_object all named.ordered x (back_snap s (x.number, some.0)) c (stands olds named.apart s m refl x.number some.0 some.1) e refl in
        some.1 ∙ ap (λ (k : BackSnap). Some k.parent) (sym one))
  ]

  pub record Member (x : BackSnap) : Type 0 where
    pub there : Contains all x
    pub passes : goes x ≡ true
    pub of : x.snapshotter ≡ s

  member : (x : BackSnap) → Contains those x → Member x
  member x c =
      let a = from_filter (λ (y : BackSnap). bytes_eq y.snapshotter s) (in_order (goes_before all) (filter goes all)) x c in
      let b = from_filter goes all x (in_ordered (goes_before all) (filter goes all) x a.0) in
      record { there = b.0; passes = b.1; of = (bytes_eq-Decides x.snapshotter s).0 a.1 }

  is_member : (x : BackSnap) → Contains all x → goes x ≡ true → x.snapshotter ≡ s → Contains those x
  is_member x c g e = in_filter (λ (y : BackSnap). bytes_eq y.snapshotter s) (in_order (goes_before all) (filter goes all)) x (ordered_has (goes_before all) (filter goes all) x (in_filter goes all x c g)) ((bytes_eq-Decides x.snapshotter s).1 e)

  -- no two have one name
  abbrev Differ : BackSnap → BackSnap → Type 0
  Differ x y = object_name x ≡ object_name y → ⊥

  before_self : (x : BackSnap) → stands_before x x ≡ true → ⊥
  before_self x h = elim (or_cases (is_lt (text_cmp x.snapshotter x.snapshotter)) (bytes_eq x.snapshotter x.snapshotter && nat_lt x.number x.number) h) [
    | inl less ↦ (let e : is_lt (text_cmp x.snapshotter x.snapshotter) ≡ false = ap is_lt (tied_itself nat_list_cmp_total x.snapshotter) in absurd (both_ways (is_lt (text_cmp x.snapshotter x.snapshotter)) e less))
    | inr same ↦ (let less = ltb-true x.number x.number (and_parts (bytes_eq x.snapshotter x.snapshotter) (nat_lt x.number x.number) same).1 in absurd (omega (arith, less)))
  ]

  differ_from : (x y : BackSnap) → stands_before x y ≡ true → Differ x y
  differ_from x y h same = before_self y (subst (λ (name : Text × ℕ). stands_before (record { snapshotter = name.0; number = name.1; parent = None }) y ≡ true) same h)

  differ_pairs : (xs : List BackSnap) → AllPairs (λ a b. IsTrue (stands_before a b)) xs → Pairs Differ xs
  differ_pairs [] h = tt
  differ_pairs (x ∷ xs) h = (
    each_from Differ x xs (λ z c. differ_from x z (All-contains (λ (y : BackSnap). IsTrue (stands_before x y)) xs z (pairs_head x xs h) c)),
    differ_pairs xs (pairs_tail x xs h),
  )
    where
      pairs_head : (x : BackSnap) (xs : List BackSnap) → AllPairs (λ a b. IsTrue (stands_before a b)) (x ∷ xs) → All (λ (y : BackSnap). IsTrue (stands_before x y)) xs
      pairs_head x xs h k d lt = h 0 (suc k) d (omega arith) (omega (arith, lt))

      pairs_tail : (x : BackSnap) (xs : List BackSnap) → AllPairs (λ a b. IsTrue (stands_before a b)) (x ∷ xs) → AllPairs (λ a b. IsTrue (stands_before a b)) xs
      pairs_tail x xs h i j d lt lt2 = h (suc i) (suc j) d (omega (arith, lt)) (omega (arith, lt2))

  those_differ : Pairs Differ those
  those_differ = pairs_filter Differ (λ (y : BackSnap). bytes_eq y.snapshotter s) (in_order (goes_before all) (filter goes all))
      (pairs_order Differ (λ x y d e. d (sym e)) (goes_before all) (filter goes all) (pairs_filter Differ goes all (differ_pairs all named.ordered)))

  those_behind : Pairs (λ (a b : BackSnap). goes_before all b a ≡ false) those
  those_behind = pairs_filter (λ (a b : BackSnap). goes_before all b a ≡ false) (λ (y : BackSnap). bytes_eq y.snapshotter s) (in_order (goes_before all) (filter goes all))
      (order_pairs (goes_before all) named.one_way named.chain (filter goes all))

  -- a child goes before its parent
  child_before : (child above : BackSnap) → Contains all child → object_above all child ≡ Some above → above.snapshotter ≡ child.snapshotter → goes_before all child above ≡ true
  child_before child above c e same =
      or_right (is_lt (text_cmp child.snapshotter above.snapshotter)) (bytes_eq child.snapshotter above.snapshotter && (nat_lt (depth_of all above) (depth_of all child)
      || depth_of all child == depth_of all above && nat_lt child.number above.number))
      (and_from (bytes_eq child.snapshotter above.snapshotter) (nat_lt (depth_of all above) (depth_of all child) || depth_of all child == depth_of all above && nat_lt child.number above.number)
      ((bytes_eq-Decides child.snapshotter above.snapshotter).1 (sym same))
      (or_left (nat_lt (depth_of all above) (depth_of all child)) (depth_of all child == depth_of all above && nat_lt child.number above.number)
      (lt-ltb (depth_of all above) (depth_of all child) (deeper all falls_found child above c e))))

  -- ---- the three parts

  is_held : (n : ℕ) → has (numbers those) n ≡ true → IsHeld m n
  is_held n h =
      let z = of_has those n h in
      let z_is = member z.0 z.1 in
      subst (λ (k : ℕ). IsHeld m k) z.2 (subst (λ (o : Option (Option ℕ)). IsSome o) (sym (member_is z.0 z_is.there z_is.of)) refl)

  module _ (xs ys : List ℕ) (n : ℕ) (e : numbers those ≡ xs ++ n ∷ ys) where
    abbrev sp : Split (λ (x : BackSnap). x.number) those xs n ys
    sp = split (λ (x : BackSnap). x.number) those xs n ys e

    item_there : Contains those sp.item
    item_there = subst (λ (l : List BackSnap). Contains l sp.item) (sym sp.is) (in_back sp.before (sp.item ∷ sp.behind) sp.item (here sp.item sp.behind))

    is_once : has xs n ≡ false
    is_once = false_from_ne_true (has xs n) (λ h.
        let z = of_has sp.before n (ap (λ (l : List ℕ). has l n) sp.front_is ∙ h) in
        let z_there : Contains those z.0 = subst (λ (l : List BackSnap). Contains l z.0) (sym sp.is) (in_front sp.before (sp.item ∷ sp.behind) z.0 z.1) in
        let apart = pairs_front Differ sp.before sp.behind sp.item (subst (Pairs Differ) sp.is those_differ) z.0 z.1 in
        let name : z.0.snapshotter ≡ sp.item.snapshotter = (member z.0 z_there).of ∙ sym (member sp.item item_there).of in
        let number : z.0.number ≡ sp.item.number = z.2 ∙ sym sp.item_is in
        apart (λ i. (name i, number i)))

    child_in_front : (closed : (snap above : BackSnap) → Contains all snap → Contains all above → IsAbove above snap → goes above ≡ true → goes snap ≡ true) → (c : ℕ) → IsChild m n c → has xs c ≡ true
    child_in_front closed c child =
        let x = sp.item in
        let x_is = member x item_there in
        let k : BackSnap = back_snap s (c, Some n) in
        let k_there : Contains all k = stands olds named.apart s m refl c (Some n) child in
        let above : IsAbove x k = (x_is.of, ap (λ (j : ℕ). Some j) (sym sp.item_is)) in
        let k_in : Contains those k = is_member k k_there (closed k x k_there x_is.there above x_is.passes) refl in
        let less : x.number < c = named.falls k x k_there x_is.there above in
        let x_found : object_above all k ≡ Some x =
        found olds named.apart s m refl n ∙ ap (option_map (λ q. back_snap s (n, q))) (ap (finmap.get m) (sym sp.item_is) ∙ member_is x x_is.there x_is.of)
        ∙ (λ i. Some (record { snapshotter = sym x_is.of i; number = sym sp.item_is i; parent = x.parent })) in
        elim (in_part sp.before (x ∷ sp.behind) k (subst (λ (l : List BackSnap). Contains l k) sp.is k_in)) [
          | inl front ↦ sym (ap (λ (l : List ℕ). has l c) sp.front_is) ∙ has_of sp.before k front
          | inr rest ↦ elim (first_or_later x sp.behind k rest) [
            | inl same ↦ (let e2 : x.number ≡ c = ap (λ (y : BackSnap). y.number) same in absurd (omega (arith, less, e2)))
            | inr back ↦ (
                let no = pairs_back (λ (a b : BackSnap). goes_before all b a ≡ false) sp.before sp.behind x (subst (Pairs (λ (a b : BackSnap). goes_before all b a ≡ false)) sp.is those_behind) k back in
                absurd (both_ways (goes_before all k x) no (child_before k x k_there x_found x_is.of)))
          ]
        ]

  those_first : (closed : (snap above : BackSnap) → Contains all snap → Contains all above → IsAbove above snap → goes above ≡ true → goes snap ≡ true) → Childfirst (numbers those) m
  those_first closed = record {
    held = is_held;
    once = λ xs ys n e. is_once xs ys n e;
    children = λ xs ys n c e child. child_in_front xs ys n e closed c child;
  }

  -- the numbers of each shard may be swept
  pub names_may_be_swept : (closed : (snap above : BackSnap) → Contains all snap → Contains all above → IsAbove above snap → goes above ≡ true → goes snap ≡ true) → Childfirst (numbers_of s names) m
  names_may_be_swept closed = subst (λ (l : List ℕ). Childfirst l m) (sym numbers_are) (those_first closed)

  -- and just these are listed
  pub listed_is : (n : ℕ) (p : Option ℕ) → finmap.get m n ≡ Some p → has (numbers_of s names) n ≡ goes (back_snap s (n, p))
  listed_is n p is =
      let k : BackSnap = back_snap s (n, p) in
      let k_there : Contains all k = stands olds named.apart s m refl n p is in
      ap (λ (l : List ℕ). has l n) numbers_are ∙ elim (cases_Bool (goes k)) [
        | inl t ↦ has_of those k (is_member k k_there t refl) ∙ sym t
        | inr f ↦ false_from_ne_true (has (numbers those) n) (λ h.
            let z = of_has those n h in
            let z_is = member z.0 z.1 in
            let same : z.0 ≡ k = one_object all named.ordered z.0 k z_is.there k_there z_is.of z.2 in
            both_ways (goes k) f (sym (ap goes same) ∙ z_is.passes)) ∙ sym f
      ]
