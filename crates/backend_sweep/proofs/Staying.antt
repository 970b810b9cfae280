-- Of one shard just those are gone that were removed: what isn't owned stays where its removal
-- failed, or that of a descendant.
use Rattle.std.proofs.Common.{◌≡◌, ℕ, zero, suc, ◌<◌, List, [], ◌∷◌, ◌++◌, Bool, true, false, not, refl, sym, ◌∙◌, ap, subst, inl, inr, arith}
use Rattle.std.specs.Prelude.{length, AllPairs, Option, Some, None, IsSome, IsTrue, bytes_eq, find, option_map, option_and_then, cond, Contains, ◌==◌, ◌&&◌, ◌||◌}
use Rattle.std.specs.List.{list_any}
use Rattle.std.specs.Option.{option_map_or}
use Rattle.std.specs.FinMap as finmap
use Rattle.std.proofs.lemmas.Bool.{cases_Bool, or_cases, or_left, or_right, and_parts, and_from, both_ways, false_from_ne_true}
use Rattle.std.proofs.lemmas.Bool.Decides.{Decides-eqb}
use Rattle.std.proofs.lemmas.Slice.Eq.{bytes_eq-Decides}
use Rattle.meta_types.specs.Text.{Text}
use Rattle.meta_types.specs.Rows.{Tables, BackSnap}
use Rattle.meta_types.specs.Backends.{BackNames, is_named, object_name, ancestors, ancestors_of, is_ancestor_of_one, owns_snapshot, snapshot_object_stays}
use Rattle.meta_types.proofs.Members.{any_from, found_by_any, first_or_later, none_in_nothing}
use Rattle.meta_types.proofs.ListSearches.{finds, none_or_some, some_is, no_none, found_is, first_of, third_of}
use Rattle.meta_types.specs.Changes.{stands_before}
use Rattle.meta_types.proofs.Falling.{one_object, object_above, parent_is_ancestor, all_ancestors}
use Rattle.back_model.specs.Snaps.{Snaps}
use Rattle.back_model.specs.Shown.{Shard, AreApart, snaps_at, back_snap, all_snaps}
use Rattle.backend_sweep.specs.Shards.{IsChild, IsHeld, has}
use Rattle.backend_sweep.specs.Sweep.{Climbs, IsAncestor, Sweeps, Swept, Childfirst}
use Rattle.backend_sweep.proofs.Leaving.{leaves}
use Rattle.backend_sweep.proofs.Ancestry.{found, found_at, stands, climbed}

-- what a sweep of the shard was given, and what it did
pub record Of (olds : List Shard) (tables : Tables) (failed : BackNames) (name : Text) (m now : Snaps) (list : List ℕ) (before after : ℕ) (r : Swept) : Type 0 where
  pub apart : AreApart olds
  pub at : snaps_at name olds ≡ m
  pub falls : (snap above : BackSnap) → Contains (all_snaps olds) snap → object_above (all_snaps olds) snap ≡ Some above → above.number < snap.number
  pub first : Childfirst list m
  pub sweeps : Sweeps list m now before after r
  pub ordered : AllPairs (λ a b. IsTrue (stands_before a b)) (all_snaps olds)
  pub failed_is : (n : ℕ) → list_any (λ (other : Text × ℕ). bytes_eq name other.0 && n == other.1) failed.snapshots ≡ has r.failed n
  pub listed_is : (n : ℕ) (p : Option ℕ) → finmap.get m n ≡ Some p → has list n ≡ not (owns_snapshot tables (back_snap name (n, p)))

held : (m : Snaps) (n : ℕ) → IsHeld m n → (p : Option ℕ) × (finmap.get m n ≡ Some p)
held m n h = go (finmap.get m n) refl h
  where
    go : (o : Option (Option ℕ)) → finmap.get m n ≡ o → IsSome o → (p : Option ℕ) × (finmap.get m n ≡ Some p)
    go None e h = absurd cc
    go (Some p) e h = (p, e)

module _ (olds : List Shard) (tables : Tables) (failed : BackNames) (name : Text) (m now : Snaps) (list : List ℕ) (before after : ℕ) (r : Swept) (of : Of olds tables failed name m now list before after r) where
  abbrev all : List BackSnap
  all = all_snaps olds

  abbrev snap_of : ℕ → Option ℕ → BackSnap
  snap_of n p = back_snap name (n, p)

  named_so : (n : ℕ) (p : Option ℕ) → is_named (name, n) (snap_of n p) ≡ true
  named_so n p = and_from (bytes_eq name name) (n == n) ((bytes_eq-Decides name name).1 refl) ((Decides-eqb n n).1 refl)

  -- ---- from chains to ancestors

  -- along a chain each is among the ancestors
  climb_in : (top : BackSnap) → Contains all top → (n : ℕ) (o : Option ℕ) → finmap.get m n ≡ Some o → (ps : List ℕ) (a : ℕ) (q : Option ℕ) → finmap.get m a ≡ Some q → Climbs m n (ps ++ a ∷ [])
      → ((p : ℕ) (pp : Option ℕ) → finmap.get m p ≡ Some pp → IsChild m p n → Contains (ancestors_of all top) (snap_of p pp)) → Contains (ancestors_of all top) (snap_of a q)
  climb_in top there n o is [] a q qis c step = step a q qis c.0
  climb_in top there n o is (p ∷ ps) a q qis c step = elim (none_or_some (finmap.get m p)) [
    | inl none ↦ lost ps a q qis p none c.1
    | inr some ↦ climb_in top there p some.0 some.1 ps a q qis c.1 (λ p2 pp2 is2 child2.
        let this : Contains (ancestors_of all top) (snap_of p some.0) = step p some.0 some.1 c.0 in
        let up : object_above all (snap_of p some.0) ≡ Some (snap_of p2 pp2) = ap (λ (o : Option ℕ). object_above all (snap_of p o)) (some_is _ _ (sym some.1 ∙ child2)) ∙ found_at olds of.apart name m of.at p2 pp2 is2 in
        all_ancestors all of.falls top (snap_of p some.0) (snap_of p2 pp2) there this up)
  ]
    where
      lost : (ps : List ℕ) (a : ℕ) (q : Option ℕ) → finmap.get m a ≡ Some q → (p : ℕ) → finmap.get m p ≡ None → Climbs m p (ps ++ a ∷ []) → Contains (ancestors_of all top) (snap_of a q)
      lost [] a q qis p none c = no_none _ (sym none ∙ c.0)
      lost (x ∷ ps) a q qis p none c = no_none _ (sym none ∙ c.0)

  some_there : (x : BackSnap) → Contains all x → 0 < length all
  some_there x c = omega (arith, c.1)

  ancestor_in : (f a : ℕ) (pf q : Option ℕ) → finmap.get m f ≡ Some pf → finmap.get m a ≡ Some q → IsAncestor m a f → Contains (ancestors_of all (snap_of f pf)) (snap_of a q)
  ancestor_in f a pf q fis ais chain =
      let there = stands olds of.apart name m of.at f pf fis in
      climb_in (snap_of f pf) there f pf fis chain.0 a q ais chain.1 (λ p pp is child.
      parent_is_ancestor all (length all) (snap_of f pf) (snap_of p pp) (some_there (snap_of f pf) there)
      (ap (λ (o : Option ℕ). object_above all (snap_of f o)) (some_is _ _ (sym fis ∙ child)) ∙ found_at olds of.apart name m of.at p pp is))

  -- ---- what is said of one number

  abbrev is_failed : BackSnap → Bool
  is_failed snap = list_any (λ other. is_named other snap) failed.snapshots

  abbrev is_below : BackSnap → Bool
  is_below snap = is_ancestor_of_one all failed.snapshots snap

  -- an ancestor of what failed is below
  below_by : (n f : ℕ) (p pf : Option ℕ) → finmap.get m n ≡ Some p → finmap.get m f ≡ Some pf → has r.failed f ≡ true → IsAncestor m n f → is_below (snap_of n p) ≡ true
  below_by n f p pf is fis hf chain =
      let there = stands olds of.apart name m of.at f pf fis in
      let failed_f : is_failed (snap_of f pf) ≡ true = of.failed_is f ∙ hf in
      let among : list_any (is_named (object_name (snap_of n p))) (ancestors_of all (snap_of f pf)) ≡ true =
      any_from (is_named (name, n)) (ancestors_of all (snap_of f pf)) (snap_of n p) (ancestor_in f n pf p fis is chain) (named_so n p) in
      any_from (λ one. is_failed one && list_any (is_named (object_name (snap_of n p))) (ancestors_of all one)) all (snap_of f pf) there
      (and_from (is_failed (snap_of f pf)) (list_any (is_named (object_name (snap_of n p))) (ancestors_of all (snap_of f pf))) failed_f among)

  -- what is below is an ancestor of what failed
  pub record Under (n : ℕ) : Type 0 where
    pub one : ℕ
    pub fails : has r.failed one ≡ true
    pub chain : IsAncestor m n one

  -- ancestors are of one snapshotter
  by_one : (most : ℕ) (one x : BackSnap) → Contains (ancestors most all one) x → x.snapshotter ≡ one.snapshotter
  by_one zero one x c = none_in_nothing x c
  by_one (suc most) one x c = go (λ above ca. by_one most above x ca) one.parent c
    where
      go : ((above : BackSnap) → Contains (ancestors most all above) x → x.snapshotter ≡ above.snapshotter) → (o : Option ℕ) → Contains (option_map_or (λ (snap : BackSnap). snap ∷ ancestors most all snap) (option_and_then (λ number. find (is_named (one.snapshotter, number)) all) o) []) x → x.snapshotter ≡ one.snapshotter
      go rest None c = none_in_nothing x c
      go rest (Some number) c = elim (none_or_some (find (is_named (one.snapshotter, number)) all)) [
        | inl none ↦ none_in_nothing x (subst (λ (o : Option BackSnap). Contains (option_map_or (λ (snap : BackSnap). snap ∷ ancestors most all snap) o []) x) none c)
        | inr some ↦ (
            let named = (found_is (is_named (one.snapshotter, number)) all some.0 some.1).1 in
            let same : some.0.snapshotter ≡ one.snapshotter = (bytes_eq-Decides some.0.snapshotter one.snapshotter).0 (and_parts (bytes_eq some.0.snapshotter one.snapshotter) (some.0.number == number) named).0 in
            elim (first_or_later some.0 (ancestors most all some.0) x (subst (λ (o : Option BackSnap). Contains (option_map_or (λ (snap : BackSnap). snap ∷ ancestors most all snap) o []) x) some.1 c)) [
              | inl is ↦ ap (λ (s : BackSnap). s.snapshotter) (sym is) ∙ same
              | inr more ↦ rest some.0 more ∙ same
            ])
      ]

  -- what the list has of this snapshotter, the shard has
  member_is : (x : BackSnap) → Contains all x → x.snapshotter ≡ name → finmap.get m x.number ≡ Some x.parent
  member_is x c e = elim (none_or_some (finmap.get m x.number)) [
    | inl none ↦ (
        let any : list_any (is_named (name, x.number)) all ≡ true = any_from (is_named (name, x.number)) all x c (and_from (bytes_eq x.snapshotter name) (x.number == x.number) ((bytes_eq-Decides x.snapshotter name).1 e) ((Decides-eqb x.number x.number).1 refl)) in
        let there = finds (is_named (name, x.number)) all any in
        no_none there.0 (sym (ap (option_map (λ q. back_snap name (x.number, q))) none) ∙ sym (found olds of.apart name m of.at x.number) ∙ there.1))
    | inr some ↦ (
        let one = one_object all of.ordered x (snap_of x.number some.0) c (stands olds of.apart name m of.at x.number some.0 some.1) e refl in
        some.1 ∙ ap (λ (s : BackSnap). Some s.parent) (sym one))
  ]

  under : (n : ℕ) (p : Option ℕ) → finmap.get m n ≡ Some p → is_below (snap_of n p) ≡ true → Under n
  under n p is h =
      let top = found_by_any (λ one. is_failed one && list_any (is_named (object_name (snap_of n p))) (ancestors_of all one)) all h in
      let one = top.0 in
      let both = and_parts (is_failed one) (list_any (is_named (name, n)) (ancestors_of all one)) top.2 in
      let above = found_by_any (is_named (name, n)) (ancestors_of all one) both.1 in
      let x = above.0 in
      let x_is = and_parts (bytes_eq x.snapshotter name) (x.number == n) above.2 in
      let x_name : x.snapshotter ≡ name = (bytes_eq-Decides x.snapshotter name).0 x_is.0 in
      let x_number : x.number ≡ n = (Decides-eqb x.number n).0 x_is.1 in
      let one_name : one.snapshotter ≡ name = sym (by_one (length all) one x above.1) ∙ x_name in
      let one_is : one ≡ snap_of one.number one.parent = λ i. record { snapshotter = one_name i; number = one.number; parent = one.parent } in
      let c = climbed olds of.apart name m of.at one.number one.parent x (member_is one top.1 one_name) (subst (λ (s : BackSnap). Contains (ancestors_of all s) x) one_is above.1) in
      record {
        one = one.number;
        fails = sym (of.failed_is one.number) ∙ ap is_failed (sym one_is) ∙ both.0;
        chain = subst (λ (k : ℕ). IsAncestor m k one.number) x_number c.chain;
      }

  none_of_three : (a b c : Bool) → a ≡ false → b ≡ false → c ≡ false → (a || b || c) ≡ false
  none_of_three a b c x y z = rw (x, y, z) refl

  second_of : (a b c : Bool) → b ≡ true → (a || b || c) ≡ true
  second_of true b c h = refl
  second_of false b c h = rw h refl

  -- a number that the sweep removed is gone, and any other stays
  pub stays_is : (n : ℕ) (p : Option ℕ) → finmap.get m n ≡ Some p → snapshot_object_stays tables all failed (snap_of n p) ≡ not (has r.removed n)
  stays_is n p is =
      let s = of.sweeps in
      let own : Bool = owns_snapshot tables (snap_of n p) in
      let listed : has list n ≡ not own = of.listed_is n p is in
      elim (cases_Bool (has r.removed n)) [
        | inl gone ↦ (
            let here : has list n ≡ true = s.sorted n ∙ or_left (has r.removed n) (has r.failed n || has r.kept n) gone in
            let apart = s.apart n gone in
            let no_own : own ≡ false = turned own (sym listed ∙ here) in
            let no_below : is_below (snap_of n p) ≡ false = false_from_ne_true (is_below (snap_of n p)) (λ h.
            let u = under n p is h in
            let left : finmap.get now n ≡ finmap.get m n = (leaves list m now before after r of.first s).stays n here (inr (u.one, u.fails, u.chain)) in
            let none : finmap.get now n ≡ None = s.contents n ∙ ap (λ (b : Bool). cond b None (finmap.get m n)) gone in
            no_none p (sym none ∙ left ∙ is)) in
            none_of_three own (is_failed (snap_of n p)) (is_below (snap_of n p)) no_own (of.failed_is n ∙ apart.0) no_below ∙ ap not (sym gone))
        | inr left ↦ (
            elim (cases_Bool own) [
              | inl owned ↦ first_of own (is_failed (snap_of n p)) (is_below (snap_of n p)) owned
              | inr free ↦ (
                  let here : has list n ≡ true = listed ∙ ap not free in
                  elim (or_cases (has r.removed n) (has r.failed n || has r.kept n) (sym (s.sorted n) ∙ here)) [
                    | inl gone ↦ absurd (both_ways (has r.removed n) left gone)
                    | inr some ↦ elim (or_cases (has r.failed n) (has r.kept n) some) [
                      | inl fails ↦ second_of own (is_failed (snap_of n p)) (is_below (snap_of n p)) (of.failed_is n ∙ fails)
                      | inr kept ↦ (
                          let w = s.why n kept in
                          let f_listed : has list w.0 ≡ true = s.sorted w.0 ∙ or_right (has r.removed w.0) (has r.failed w.0 || has r.kept w.0) (or_left (has r.failed w.0) (has r.kept w.0) w.1) in
                          let f_held = held m w.0 (of.first.held w.0 f_listed) in
                          third_of own (is_failed (snap_of n p)) (is_below (snap_of n p)) (below_by n w.0 p f_held.0 is f_held.1 w.1 w.2))
                    ]
                  ])
            ] ∙ ap not (sym left))
      ]
    where
      turned : (b : Bool) → not b ≡ true → b ≡ false
      turned true h = absurd cc
      turned false h = refl

  -- what failed is no ancestor of what failed
  pub apart_is : (n : ℕ) (p : Option ℕ) → finmap.get m n ≡ Some p → is_failed (snap_of n p) ≡ true → is_below (snap_of n p) ≡ false
  apart_is n p is h = false_from_ne_true (is_below (snap_of n p)) (λ b.
      let u = under n p is b in
      (leaves list m now before after r of.first of.sweeps).apart n u.one (sym (of.failed_is n) ∙ h) u.fails u.chain)
