-- Namespaces in any order, each once: their rows, and which of them are the same in every order.
use Rattle.std.proofs.Common.{◌≡◌, ℕ, zero, suc, Bool, false, List, [], ◌∷◌, ◌++◌, length, get_or, take, drop, map, Some, refl, sym, ap, ◌∙◌, subst, arith, inl, inr}
use Rattle.std.specs.Prelude.{All, Contains, slice_get, bytes_eq, ◌&&◌}
use Rattle.std.specs.Cmp.{on_equiv}
use Rattle.std.specs.List.{IsDistinct, AllByRecursion}
use Rattle.std.specs.List.Sorted.{IsPermutation}
use Rattle.std.proofs.lemmas.Bool.{cases_Bool}
use Rattle.std.proofs.lemmas.List.Elements.{All-head, All-tail, All-nil, All-append, recursion_from_All}
use Rattle.std.proofs.lemmas.List.Sorted.{All-permutation, Contains-permutation, IsPermutation-sym}
use Rattle.std.proofs.lemmas.List.Elements.{Contains-append_left, Contains-append_right, Contains-append_cases}
use Rattle.std.proofs.lemmas.Option.{slice_get_within, get_or_from_slice_get}
use Rattle.indexmap.proofs.MapLemmas.{distinct_permutation}
use Rattle.meta_types.specs.Text.{Text}
use Rattle.meta_types.specs.Keys.{Key, is_key, has_row}
use Rattle.meta_types.proofs.Members.{here, later, first_or_later, none_in_nothing}
use Rattle.meta_types.proofs.ListSearches.{no_none, some_is}
use Rattle.row_tables.specs.Arrived.{sorted, same_key, keys_equiv}
use Rattle.row_tables.specs.ArrivedNamespaces.{AreArrived, AreApart}
use Rattle.row_tables.specs.Namespaces.{joined, group_key, all_rows}
use Rattle.row_tables.proofs.Arrivals.{one_list, is_in_order, in_sorted, from_sorted}
use Rattle.row_tables.proofs.Entries.{at_place}
use Rattle.row_tables.proofs.JoinedLists.{all_cons}
use Rattle.row_tables.proofs.KeysOnce.{are_arrived, arrived_own, arrived_apart, in_order_apart, same_members}
use Rattle.row_tables.proofs.NamespacesArrived.{key, name}

-- ---- lists in which nothing stands twice, one behind the other

all_both : {X : Type 0} (P : X → Type 0) (xs ys : List X) → AllByRecursion P xs
    → AllByRecursion P ys → AllByRecursion P (xs ++ ys)
all_both P [] ys h k = k
all_both P (x ∷ xs) ys h k = (h.0, all_both P xs ys h.1 k)

all_front : {X : Type 0} (P : X → Type 0) (xs ys : List X) → AllByRecursion P (xs ++ ys)
    → AllByRecursion P xs
all_front P [] ys h = tt
all_front P (x ∷ xs) ys h = (h.0, all_front P xs ys h.1)

module _ {X : Type 0} (same : X → X → Bool) where
  distinct_both : (xs ys : List X) → IsDistinct same xs → IsDistinct same ys
      → All (λ x. AllByRecursion (λ y. same x y ≡ false) ys) xs → IsDistinct same (xs ++ ys)
  unfolding IsDistinct
  distinct_both [] ys d e apart = e
  distinct_both (x ∷ xs) ys d e apart = (
    all_both (λ y. same x y ≡ false) xs ys d.0
        (All-head (λ x. AllByRecursion (λ y. same x y ≡ false) ys) x xs apart),
    distinct_both xs ys d.1 e (All-tail (λ x. AllByRecursion (λ y. same x y ≡ false) ys) x xs apart),
  )

  pub distinct_front : (xs ys : List X) → IsDistinct same (xs ++ ys) → IsDistinct same xs
  unfolding IsDistinct
  distinct_front [] ys d = tt
  distinct_front (x ∷ xs) ys d =
      (all_front (λ y. same x y ≡ false) xs ys d.0, distinct_front xs ys d.1)

  pub distinct_back : (xs ys : List X) → IsDistinct same (xs ++ ys) → IsDistinct same ys
  unfolding IsDistinct
  distinct_back [] ys d = d
  distinct_back (x ∷ xs) ys d = distinct_back xs ys d.1

  pub distinct_one : (x : X) → IsDistinct same (x ∷ [])
  unfolding IsDistinct
  distinct_one x = (tt, tt)

  pub distinct_none : IsDistinct same []
  unfolding IsDistinct
  distinct_none = tt

  pub distinct_first : (x : X) (xs : List X) → IsDistinct same (x ∷ xs)
      → AllByRecursion (λ y. same x y ≡ false) xs
  unfolding IsDistinct
  distinct_first x xs d = d.0

  pub distinct_rest : (x : X) (xs : List X) → IsDistinct same (x ∷ xs) → IsDistinct same xs
  unfolding IsDistinct
  distinct_rest x xs d = d.1

-- a name that isn't another's
alone_apart : (a b : Text) → is_key (a ∷ []) (b ∷ []) ≡ false → bytes_eq a b ≡ false
alone_apart a b h = elim (cases_Bool (bytes_eq a b)) [ inl t ↦ absurd (cc (rw t at h)) | inr f ↦ f ]

module _ {Row : Type 0} where
  -- ---- which rows there are

  in_joined : (gs : List (Text × List Row)) (g : Text × List Row) (x : Row) → Contains gs g
      → Contains g.1 x → Contains (all_rows gs) x
  in_joined [] g x c d = none_in_nothing g c
  in_joined (h ∷ gs) g x c d = elim (first_or_later h gs g c) [
    | inl e ↦ Contains-append_left h.1 (all_rows gs) x (subst (λ (k : Text × List Row). Contains k.1 x) (sym e) d)
    | inr more ↦ Contains-append_right h.1 (all_rows gs) x (in_joined gs g x more d)
  ]

  from_joined : (gs : List (Text × List Row)) (x : Row) → Contains (all_rows gs) x
      → (g : Text × List Row) × Contains gs g × Contains g.1 x
  from_joined [] x c = none_in_nothing x c
  from_joined (h ∷ gs) x c = elim (Contains-append_cases h.1 (all_rows gs) x c) [
    | inl first ↦ (h, here h gs, first)
    | inr more ↦ (let rest = from_joined gs x more in (rest.0, later h gs rest.0 rest.1, rest.2))
  ]

  moved : (gs hs : List (Text × List Row)) → IsPermutation gs hs → (x : Row)
      → Contains (all_rows gs) x → Contains (all_rows hs) x
  moved gs hs p x c =
      let from = from_joined gs x c in in_joined hs from.0 x (Contains-permutation gs hs from.0 p from.1) from.2

  -- ---- names

  -- a name that no namespace has stands under another key than each of them
  pub others_apart : (g : Text × List Row) (gs : List (Text × List Row))
      → has_row group_key (group_key g) gs ≡ false
      → AllByRecursion (λ o. same_key group_key g o ≡ false) gs
  others_apart g [] h = tt
  others_apart g (o ∷ gs) h = elim (cases_Bool (is_key (group_key g) (group_key o))) [
    | inl t ↦ absurd (cc (rw t at h))
    | inr f ↦ (f, others_apart g gs (rw f at h))
  ]

  pub names_more : (g : Text × List Row) (gs : List (Text × List Row))
      → has_row group_key (group_key g) gs ≡ false → IsDistinct (same_key group_key) gs
      → IsDistinct (same_key group_key) (g ∷ gs)
  unfolding IsDistinct
  names_more g gs h d = (others_apart g gs h, d)

  pub none_others : (ns : Text) (gs : List (Text × List Row))
      → AllByRecursion (λ o. is_key (ns ∷ []) (group_key o) ≡ false) gs
      → has_row group_key (ns ∷ []) gs ≡ false
  none_others ns [] h = refl
  none_others ns (o ∷ gs) h = rw h.0 (none_others ns gs h.1)

  -- the names decide
  names_of : (ns : Text) (gs hs : List (Text × List Row))
      → map (λ group. group.0) gs ≡ map (λ group. group.0) hs
      → AllByRecursion (λ o. is_key (ns ∷ []) (group_key o) ≡ false) hs
      → AllByRecursion (λ o. is_key (ns ∷ []) (group_key o) ≡ false) gs
  names_of ns [] hs e h = tt
  names_of ns (g ∷ gs) [] e h = absurd (nonempty (ap length e))
    where
      nonempty : suc (length (map (λ (group : Text × List Row). group.0) gs)) ≡ 0 → ⊥
      nonempty h = omega (arith, h)
  names_of ns (g ∷ gs) (o ∷ hs) e h =
      (ap (λ (l : List Text). is_key (ns ∷ []) (get_or l 0 [] ∷ [])) e ∙ h.0, names_of ns gs hs (ap (drop 1) e) h.1)

  pub names_distinct : (gs hs : List (Text × List Row))
      → map (λ group. group.0) gs ≡ map (λ group. group.0) hs → IsDistinct (same_key group_key) hs
      → IsDistinct (same_key group_key) gs
  unfolding IsDistinct
  names_distinct [] hs e d = tt
  names_distinct (g ∷ gs) [] e d = absurd (nonempty (ap length e))
    where
      nonempty : suc (length (map (λ (group : Text × List Row). group.0) gs)) ≡ 0 → ⊥
      nonempty h = omega (arith, h)
  names_distinct (g ∷ gs) (o ∷ hs) e d =
      let same : g.0 ≡ o.0 = ap (λ (l : List Text). get_or l 0 []) e in
      (subst (λ (m : Text). AllByRecursion (λ other. is_key (m ∷ []) (group_key other) ≡ false) gs) (sym same) (names_of o.0 gs hs (ap (drop 1) e) d.0), names_distinct gs hs (ap (drop 1) e) d.1)

module _ {K Row : Type 0} (texts_of : K → Key) (name_of : Row → K) (ns_of : Row → Text) where
  abbrev full : Row → Key
  full row = key texts_of name_of ns_of row

  abbrev pub Apart : List (Text × List Row) → Type 0
  Apart gs = AreApart (key texts_of name_of ns_of) ns_of gs

  abbrev Own : Text × List Row → Type 0
  Own group = All (λ row. ns_of row ≡ group.0) group.1

  abbrev Each : Text × List Row → Type 0
  Each group = IsDistinct (same_key full) group.1

  -- ---- the rows of the other namespaces

  pub others_rows : (ns : Text) (gs : List (Text × List Row))
      → AllByRecursion (λ o. is_key (ns ∷ []) (group_key o) ≡ false) gs → All Own gs
      → All (λ row. bytes_eq ns (ns_of row) ≡ false) (all_rows gs)
  others_rows ns [] h own = All-nil (λ row. bytes_eq ns (ns_of row) ≡ false)
  others_rows ns (g ∷ gs) h own =
      All-append (λ row. bytes_eq ns (ns_of row) ≡ false) g.1 (all_rows gs)
      (λ i d lt. ap (bytes_eq ns) (All-head Own g gs own i d lt) ∙ alone_apart ns g.0 h.0)
      (others_rows ns gs h.1 (All-tail Own g gs own))

  -- ---- no key stands twice among all rows

  pub keys_apart : (gs : List (Text × List Row)) → All Own gs → IsDistinct (same_key group_key) gs
      → All Each gs → IsDistinct (same_key full) (all_rows gs)
  unfolding IsDistinct
  keys_apart [] own names each = tt
  keys_apart (g ∷ gs) own names each =
      let others = others_rows g.0 gs names.0 (All-tail Own g gs own) in
      distinct_both (same_key full) g.1 (all_rows gs) (All-head Each g gs each)
      (keys_apart gs (All-tail Own g gs own) names.1 (All-tail Each g gs each))
      (λ i d lt. recursion_from_All (λ y. same_key full (get_or g.1 i d) y ≡ false) (all_rows gs)
      (λ j e less. ap (λ m. bytes_eq m (ns_of (get_or (all_rows gs) j e)) && is_key (texts_of (name_of (get_or g.1 i d))) (texts_of (name_of (get_or (all_rows gs) j e)))) (All-head Own g gs own i d lt)
      ∙ ap (λ b. b && is_key (texts_of (name_of (get_or g.1 i d))) (texts_of (name_of (get_or (all_rows gs) j e)))) (others j e less)))

  pub each_apart : (gs : List (Text × List Row)) → IsDistinct (same_key full) (all_rows gs)
      → All Each gs
  each_apart [] d = All-nil Each
  each_apart (g ∷ gs) d =
      all_cons Each g gs (distinct_front (same_key full) g.1 (all_rows gs) d)
      (each_apart gs (distinct_back (same_key full) g.1 (all_rows gs) d))

  pub rows_distinct : (gs : List (Text × List Row)) → Apart gs
      → IsDistinct (same_key full) (all_rows gs)
  rows_distinct gs are = keys_apart gs are.own are.names are.each

  -- ---- another order

  pub apart_permuted : (gs hs : List (Text × List Row)) → IsPermutation gs hs → Apart gs → Apart hs
  apart_permuted gs hs p are = record {
    own = All-permutation Own gs hs p are.own;
    names = distinct_permutation (on_equiv group_key keys_equiv) gs hs p are.names;
    each = All-permutation Each gs hs p are.each;
  }

  pub same_rows : (gs hs : List (Text × List Row)) → IsPermutation gs hs → Apart gs
      → sorted full (all_rows gs) ≡ sorted full (all_rows hs)
  same_rows gs hs p are =
      one_list full (sorted full (all_rows gs)) (sorted full (all_rows hs))
      (is_in_order full (all_rows gs) (rows_distinct gs are)) (is_in_order full (all_rows hs) (rows_distinct hs (apart_permuted gs hs p are)))
      (λ x c. in_sorted full (all_rows hs) x (moved gs hs p x (from_sorted full (all_rows gs) x c)))
      (λ x c. in_sorted full (all_rows gs) x (moved hs gs (IsPermutation-sym gs hs p) x (from_sorted full (all_rows hs) x c)))

  -- in the order of their names they are as a search by halves wants them
  pub arrived_of : (gs : List (Text × List Row)) → Apart gs
      → AreArrived full (name texts_of name_of ns_of) ns_of (sorted group_key gs)
  arrived_of gs are =
      let hs = sorted group_key gs in
      let so = apart_permuted gs hs (same_members group_key gs) are in
      are_arrived texts_of name_of ns_of hs (is_in_order group_key gs are.names) so.own
      (rows_distinct hs so)

  pub apart_of : (hs : List (Text × List Row))
      → AreArrived full (name texts_of name_of ns_of) ns_of hs → Apart hs
  apart_of hs arrived = record {
    own = arrived_own texts_of name_of ns_of hs arrived;
    names = in_order_apart group_key hs arrived.order;
    each = each_apart hs (arrived_apart texts_of name_of ns_of hs arrived);
  }

  pub in_name_order : (gs : List (Text × List Row)) → Apart gs
      → sorted full (all_rows gs) ≡ sorted full (all_rows (sorted group_key gs))
  in_name_order gs are = same_rows gs (sorted group_key gs) (same_members group_key gs) are

  -- ---- a namespace less, that has no row, and a namespace more

  pub less_apart : (g : Text × List Row) (gs left : List (Text × List Row))
      → IsPermutation gs (g ∷ left) → Apart gs → Apart left
  less_apart g gs left p are =
      let all = apart_permuted gs (g ∷ left) p are in
      record {
        own = All-tail Own g left all.own;
        names = distinct_rest (same_key group_key) g left all.names;
        each = All-tail Each g left all.each;
      }

  pub less_rows : (g : Text × List Row) (gs left : List (Text × List Row))
      → IsPermutation gs (g ∷ left) → g.1 ≡ [] → Apart gs
      → sorted full (all_rows left) ≡ sorted full (all_rows gs)
  less_rows g gs left p none are =
      sym
      (same_rows gs (g ∷ left) p are ∙ ap (λ (l : List Row). sorted full (l ++ all_rows left)) none)

  pub more_apart : (g : Text × List Row) (gs : List (Text × List Row))
      → has_row group_key (group_key g) gs ≡ false → Own g → Each g → Apart gs → Apart (g ∷ gs)
  more_apart g gs none own each are = record {
    own = all_cons Own g gs own are.own;
    names = names_more g gs none are.names;
    each = all_cons Each g gs each are.each;
  }

  -- ---- the rows before and behind a namespace

  module _ (ns : Text) where
    pub first_apart : (g : Text × List Row) (gs : List (Text × List Row)) (i : ℕ) (rows : List Row)
        → AllByRecursion (λ o. same_key group_key g o ≡ false) gs → slice_get gs i ≡ Some (ns, rows)
        → bytes_eq ns g.0 ≡ false
    first_apart g gs i rows apart at =
        alone_apart ns g.0 (keys_equiv.symm (ns ∷ []) (group_key g)
        ∙ ap (λ (o : Text × List Row). is_key (group_key g) (group_key o))
        (sym (get_or_from_slice_get gs i (ns, rows) (ns, rows) at))
        ∙ at_place (λ o. same_key group_key g o ≡ false) gs i (ns, rows) apart (slice_get_within gs i (ns, rows) at))

    pub rows_before : (gs : List (Text × List Row)) (i : ℕ) (rows : List Row)
        → IsDistinct (same_key group_key) gs → All Own gs → slice_get gs i ≡ Some (ns, rows)
        → All (λ row. bytes_eq ns (ns_of row) ≡ false) (joined (take i (map (λ group. group.1) gs)))
    unfolding IsDistinct
    rows_before [] i rows d own at = no_none (ns, rows) at
    rows_before (g ∷ gs) zero rows d own at = All-nil (λ row. bytes_eq ns (ns_of row) ≡ false)
    rows_before (g ∷ gs) (suc i) rows d own at =
        All-append (λ row. bytes_eq ns (ns_of row) ≡ false) g.1 (joined (take i (map (λ group. group.1) gs)))
        (λ k e lt. ap (bytes_eq ns) (All-head Own g gs own k e lt) ∙ first_apart g gs i rows d.0 at)
        (rows_before gs i rows d.1 (All-tail Own g gs own) at)

    pub rows_behind : (gs : List (Text × List Row)) (i : ℕ) (rows : List Row)
        → IsDistinct (same_key group_key) gs → All Own gs → slice_get gs i ≡ Some (ns, rows)
        → All (λ row. bytes_eq ns (ns_of row) ≡ false) (joined (drop (suc i) (map (λ group. group.1) gs)))
    unfolding IsDistinct
    rows_behind [] i rows d own at = no_none (ns, rows) at
    rows_behind (g ∷ gs) zero rows d own at =
        others_rows ns gs
        (subst (λ (h : Text × List Row). AllByRecursion (λ o. is_key (group_key h) (group_key o) ≡ false) gs) (some_is g (ns, rows) at) d.0)
        (All-tail Own g gs own)
    rows_behind (g ∷ gs) (suc i) rows d own at =
        rows_behind gs i rows d.1 (All-tail Own g gs own) at
