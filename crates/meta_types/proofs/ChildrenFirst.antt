-- A report names the snapshots of each snapshotter so that no parent stands before its child, and
-- with a parent all its children.
use Rattle.std.proofs.Common.{◌≡◌, ℕ, Bool, true, false, not, List, [], ◌∷◌, map, refl, sym, ap, ◌∙◌, subst, ℤ, inl, inr}
use Rattle.std.specs.Prelude.{All, AllPairs, Contains, filter, find, Option, Some, None, IfSome, bytes_eq, nat_lt, ◌||◌, ◌&&◌, ◌==◌}
use Rattle.std.specs.Ordering.{is_lt}
use Rattle.std.proofs.lemmas.Bool.{cases_Bool, or_left, or_right, and_from, both_ways, lt-ltb, false_from_ne_true}
use Rattle.std.proofs.lemmas.Slice.Eq.{bytes_eq-Decides}
use Rattle.meta_types.specs.Text.{Text, text_cmp}
use Rattle.meta_types.specs.Rows.{Tables, State, BackSnap}
use Rattle.meta_types.specs.Keys.{in_order}
use Rattle.meta_types.specs.Paths.{Thing, TellsReached}
use Rattle.meta_types.specs.Backends.{BackNames, no_objects, is_named, object_name, depth_of, goes_before, snapshot_object_stays, removed_objects}
use Rattle.meta_types.specs.Collected.{collected_records}
use Rattle.meta_types.specs.Reports.{Report, Collects, Plans}
use Rattle.meta_types.specs.Sound.{IsSound, IsChildfirst}
use Rattle.meta_types.specs.Promises.{numbers_of, shard_of}
use Rattle.meta_types.proofs.Members.{in_filter, from_filter, any_from}
use Rattle.meta_types.proofs.FilteredNames.{from_map, in_map}
use Rattle.meta_types.proofs.ListSearches.{finds, found_is}
use Rattle.meta_types.proofs.Falling.{one_object, object_above, deeper}
use Rattle.meta_types.proofs.ObjectsAfter.{falls, above_stays, has_name, name_is}
use Rattle.meta_types.proofs.Sorted.{all_from_each, pairs_of_members, pairs_of_images, in_ordered, ordered_has, order_pairs}
use Rattle.meta_types.proofs.GoingOrder.{one_way, chain}
use Rattle.std.proofs.lemmas.List.Kept.{AllPairs-filter}

-- the numbers of one snapshotter's names are those of its snapshots
numbers_named : (snapshotter : Text) (xs : List BackSnap) → numbers_of snapshotter (map object_name xs) ≡ map (λ (snap : BackSnap). snap.number) (shard_of snapshotter xs)
numbers_named snapshotter [] = refl
numbers_named snapshotter (x ∷ xs) = elim (cases_Bool (bytes_eq x.snapshotter snapshotter)) [
  | inl t ↦ rw t (ap (λ (l : List ℕ). x.number ∷ l) (numbers_named snapshotter xs))
  | inr f ↦ rw f (numbers_named snapshotter xs)
]

module _ (state : State) (at : ℤ) (failed : BackNames) (reached : Thing → Bool) (tells : TellsReached state.records at reached) (s : IsSound state) (snapshotter : Text) where
  abbrev shards : List BackSnap
  shards = state.backends.snapshots

  abbrev tables : Tables
  tables = (collected_records at reached state.records).tables

  abbrev stays : BackSnap → Bool
  stays = snapshot_object_stays tables shards failed

  abbrev goes : BackSnap → Bool
  goes snap = not (stays snap)

  -- those of the snapshotter that go, in their order
  abbrev those : List BackSnap
  those = shard_of snapshotter (in_order (goes_before shards) (filter goes shards))

  abbrev numbers : List ℕ
  numbers = map (λ (snap : BackSnap). snap.number) those

  -- ---- members

  pub record IsOne (snap : BackSnap) : Type 0 where
    pub there : Contains shards snap
    pub gone : goes snap ≡ true
    pub of : snap.snapshotter ≡ snapshotter

  is_one : (snap : BackSnap) → Contains those snap → IsOne snap
  is_one snap c =
      let a = from_filter (λ (k : BackSnap). bytes_eq k.snapshotter snapshotter) (in_order (goes_before shards) (filter goes shards)) snap c in
      let b = from_filter goes shards snap (in_ordered (goes_before shards) (filter goes shards) snap a.0) in
      record { there = b.0; gone = b.1; of = (bytes_eq-Decides snap.snapshotter snapshotter).0 a.1 }

  one_is : (snap : BackSnap) → Contains shards snap → goes snap ≡ true → snap.snapshotter ≡ snapshotter → Contains those snap
  one_is snap c g e =
      in_filter (λ (k : BackSnap). bytes_eq k.snapshotter snapshotter) (in_order (goes_before shards) (filter goes shards)) snap
      (ordered_has (goes_before shards) (filter goes shards) snap (in_filter goes shards snap c g)) ((bytes_eq-Decides snap.snapshotter snapshotter).1 e)

  in_shard : (snap : BackSnap) → Contains (shard_of snapshotter shards) snap → Contains shards snap × (snap.snapshotter ≡ snapshotter)
  in_shard snap c = let a = from_filter (λ (k : BackSnap). bytes_eq k.snapshotter snapshotter) shards snap c in (a.0, (bytes_eq-Decides snap.snapshotter snapshotter).0 a.1)

  -- what is found by a snapshot's name is the snapshot
  found_by_name : (name : Text) (number : ℕ) (snap : BackSnap) → Contains shards snap → snap.snapshotter ≡ name → snap.number ≡ number → find (is_named (name, number)) shards ≡ Some snap
  found_by_name name number snap c e n =
      let found = finds (is_named (name, number)) shards (any_from (is_named (name, number)) shards snap c (has_name name number snap e n)) in
      let is = found_is (is_named (name, number)) shards found.0 found.1 in
      let named = name_is name number found.0 is.1 in
      let same : found.0 ≡ snap = one_object shards s.backed.objects_in_order found.0 snap is.0 c (named.0 ∙ sym e) (named.1 ∙ sym n) in
      found.1 ∙ ap (λ (k : BackSnap). Some k) same

  -- ---- children before parents

  -- a child goes before its parent
  child_before : (child above : BackSnap) → Contains shards child → object_above shards child ≡ Some above → above.snapshotter ≡ child.snapshotter → goes_before shards child above ≡ true
  child_before child above c e same =
      let down = lt-ltb (depth_of shards above) (depth_of shards child) (deeper shards (falls state at failed reached tells s) child above c e) in
      or_right (is_lt (text_cmp child.snapshotter above.snapshotter)) (bytes_eq child.snapshotter above.snapshotter && (nat_lt (depth_of shards above) (depth_of shards child)
      || depth_of shards child == depth_of shards above && nat_lt child.number above.number))
      (and_from (bytes_eq child.snapshotter above.snapshotter) (nat_lt (depth_of shards above) (depth_of shards child) || depth_of shards child == depth_of shards above && nat_lt child.number above.number)
      ((bytes_eq-Decides child.snapshotter above.snapshotter).1 (sym same))
      (or_left (nat_lt (depth_of shards above) (depth_of shards child)) (depth_of shards child == depth_of shards above && nat_lt child.number above.number) down))

  -- a later one isn't the child of an earlier one
  no_child : (early late : BackSnap) → Contains those early → Contains those late → goes_before shards late early ≡ false
      → All (λ snap. snap.number ≡ late.number → snap.parent ≡ Some early.number → ⊥) (shard_of snapshotter shards)
  no_child early late ce cl behind =
      let early_is = is_one early ce in
      let late_is = is_one late cl in
      all_from_each (λ (snap : BackSnap). snap.number ≡ late.number → snap.parent ≡ Some early.number → ⊥) (shard_of snapshotter shards) (λ snap c n p.
      let there = in_shard snap c in
      let same : snap ≡ late = one_object shards s.backed.objects_in_order snap late there.0 late_is.there (there.1 ∙ sym late_is.of) n in
      let above : object_above shards snap ≡ Some early = ap (λ (o : Option ℕ). above_of snap o) p ∙ found_by_name snap.snapshotter early.number early early_is.there (early_is.of ∙ sym there.1) refl in
      both_ways (goes_before shards late early) behind
      (subst (λ (k : BackSnap). goes_before shards k early ≡ true) same (child_before snap early there.0 above (early_is.of ∙ sym there.1))))
    where
      above_of : BackSnap → Option ℕ → Option BackSnap
      above_of snap o = object_above shards (record snap { parent = o })

  after_children : AllPairs (λ earlier late. All (λ snap. snap.number ≡ late → snap.parent ≡ Some earlier → ⊥) (shard_of snapshotter shards)) numbers
  after_children =
      pairs_of_images (λ (snap : BackSnap). snap.number) (λ earlier late. All (λ (snap : BackSnap). snap.number ≡ late → snap.parent ≡ Some earlier → ⊥) (shard_of snapshotter shards)) those
      (pairs_of_members (λ early late. goes_before shards late early ≡ false) (λ early late. All (λ (snap : BackSnap). snap.number ≡ late.number → snap.parent ≡ Some early.number → ⊥) (shard_of snapshotter shards)) those no_child
      (AllPairs-filter (λ (early late : BackSnap). goes_before shards late early ≡ false) (λ (k : BackSnap). bytes_eq k.snapshotter snapshotter) (in_order (goes_before shards) (filter goes shards))
      (order_pairs (goes_before shards) (one_way shards) (chain shards) (filter goes shards))))

  -- ---- with a parent all its children

  goes_too : (snap : BackSnap) (number : ℕ) → Contains shards snap → snap.snapshotter ≡ snapshotter → snap.parent ≡ Some number → Contains numbers number → Contains numbers snap.number
  goes_too snap number c of parent listed =
      let above = from_map (λ (k : BackSnap). k.number) those number listed in
      let is = is_one above.0 above.1 in
      let found = found_by_name snap.snapshotter number above.0 is.there (is.of ∙ sym of) above.2 in
      let out : stays snap ≡ false = false_from_ne_true (stays snap) (λ h.
      both_ways (goes above.0) (ap not (above_stays state at failed reached tells s snap above.0 number c parent found h)) is.gone) in
      in_map (λ (k : BackSnap). k.number) those snap (one_is snap c (ap not out) of)

  closed : All (λ snap. IfSome snap.parent (λ number. Contains numbers number → Contains numbers snap.number)) (shard_of snapshotter shards)
  closed = all_from_each (λ (snap : BackSnap). IfSome snap.parent (λ number. Contains numbers number → Contains numbers snap.number)) (shard_of snapshotter shards) (λ snap c.
      let there = in_shard snap c in go snap there.0 there.1 snap.parent refl)
    where
      go : (snap : BackSnap) → Contains shards snap → snap.snapshotter ≡ snapshotter → (o : Option ℕ) → snap.parent ≡ o → IfSome o (λ number. Contains numbers number → Contains numbers snap.number)
      go snap c of None e = tt
      go snap c of (Some number) e = goes_too snap number c of e

  pub are_childfirst : IsChildfirst (numbers_of snapshotter (removed_objects tables failed state.backends).snapshots) (shard_of snapshotter shards)
  are_childfirst =
      subst (λ (list : List ℕ). IsChildfirst list (shard_of snapshotter shards)) (sym (numbers_named snapshotter (in_order (goes_before shards) (filter goes shards))))
      (record { after_children = after_children; closed = closed })

-- the report of a collection of a sound store names each snapshot after all its children
pub removed_snapshots_are_childfirst : (state : State) (at : ℤ) (failed : BackNames) (report : Report) (new : State) (snapshotter : Text) → IsSound state → Collects state at failed report new
    → IsChildfirst (numbers_of snapshotter report.backend.snapshots) (shard_of snapshotter state.backends.snapshots)
removed_snapshots_are_childfirst state at failed report new snapshotter s c =
    subst (λ (r : Report). IsChildfirst (numbers_of snapshotter r.backend.snapshots) (shard_of snapshotter state.backends.snapshots)) (sym c.report_is) (are_childfirst state at failed c.reached c.tells s snapshotter)

-- the report of a dry run of a sound store names each snapshot after all its children
pub planned_snapshots_are_childfirst : (state : State) (at : ℤ) (report : Report) (snapshotter : Text) → IsSound state → Plans state at report
    → IsChildfirst (numbers_of snapshotter report.backend.snapshots) (shard_of snapshotter state.backends.snapshots)
planned_snapshots_are_childfirst state at report snapshotter s p =
    subst (λ (r : Report). IsChildfirst (numbers_of snapshotter r.backend.snapshots) (shard_of snapshotter state.backends.snapshots)) (sym p.report_is) (are_childfirst state at no_objects p.reached p.tells s snapshotter)
