-- Shards, the plans by which they were swept, and the shards that are left.
use Rattle.std.proofs.Common.{◌≡◌, ℕ, zero, suc, ◌<◌, List, [], ◌∷◌, map, length, Bool, true, false, not, refl, sym, ◌∙◌, ap, subst, inl, inr, arith, slice_index_or}
use Rattle.std.specs.Prelude.{All, Option, Some, IsTrue, bytes_eq, find, filter, cond, Contains, ◌==◌, ◌&&◌, ◌||◌}
use Rattle.std.specs.List.{list_any, AllByRecursion}
use Rattle.std.specs.Option.{option_map_or}
use Rattle.std.specs.Ordering.{is_eq, ordering_reverse}
use Rattle.std.specs.declared.cmp.Ordering.TheVariants.{Less, Greater}
use Rattle.std.specs.Cmp.Lexicographic.{nat_list_cmp_total}
use Rattle.std.specs.FinMap as finmap
use Rattle.std.proofs.lemmas.Bool.{cases_Bool, or_cases, or_left, or_right, and_parts, and_from, both_ways, false_from_ne_true}
use Rattle.std.proofs.lemmas.Bool.Decides.{Decides-eqb}
use Rattle.std.proofs.lemmas.Slice.Eq.{bytes_eq-Decides}
use Rattle.std.proofs.lemmas.Cmp.{tied_itself}
use Rattle.std.proofs.lemmas.Map.Text.{is_eq-slice_cmp}
use Rattle.meta_types.specs.Text.{Text, text_cmp}
use Rattle.meta_types.specs.Rows.{Tables, BackSnap}
use Rattle.meta_types.specs.Keys.{in_order}
use Rattle.meta_types.specs.Backends.{BackNames, is_named, object_name, goes_before, owns_snapshot, snapshot_object_stays, is_ancestor_of_one}
use Rattle.meta_types.proofs.Members.{here, later, first_or_later, none_in_nothing, in_filter, from_filter, any_from, found_by_any}
use Rattle.back_model.specs.Snaps.{Snaps}
use Rattle.back_model.specs.Shown.{Shard, AreApart, snaps_at, back_snap, snaps_in, all_snaps, shown}
use Rattle.back_model.proofs.ShardPlaces.{apart_head, apart_rest}
use Rattle.backend_sweep.specs.Shards.{has, numbers_of}
use Rattle.backend_sweep.specs.Sweep.{Swept, Childfirst, Sweeps}
use Rattle.backend_sweep.specs.ShardPlans.{PlannedShard, shard_plan_for, in_shard_plan, is_removed, is_failed}
use Rattle.backend_sweep.specs.Tasks.{entries_in, shards_in, shard_plans_in, SweepsJob}
use Rattle.backend_sweep.specs.declared.shard_task.ShardJob.{ShardJob}
use Rattle.backend_sweep.proofs.Pairing.{same_kept, in_part}
use Rattle.backend_sweep.proofs.Naming.{Named, listed_is, falls_found, member_is}
use Rattle.backend_sweep.proofs.Staying.{Of, stays_is, apart_is}
use Rattle.backend_sweep.proofs.Remaining.{Left, AreLeft, all_left}
use Rattle.backend_sweep.proofs.Sorting.{order_left}

-- a shard, its plan after the sweep, and what is left of the shard
abbrev pub Triple : Type 0
Triple = Shard × PlannedShard × Shard

abbrev pub olds_of : List Triple → List Shard
olds_of zs = map (λ (z : Triple). z.0) zs

abbrev pub shard_plans_of : List Triple → List PlannedShard
shard_plans_of zs = map (λ (z : Triple). z.1) zs

abbrev pub news_of : List Triple → List Shard
news_of zs = map (λ (z : Triple). z.2) zs

pub record One (names : List (Text × ℕ)) (z : Triple) : Type 0 where
  pub new_name : z.2.snapshotter ≡ z.0.snapshotter
  pub shard_plan_name : z.1.snapshotter ≡ z.0.snapshotter
  pub list_is : z.1.list ≡ numbers_of z.0.snapshotter names
  pub sweeps : Sweeps z.1.list z.0.snaps z.2.snaps z.0.failures z.2.failures z.1.swept

-- ---- from places to triples

pub record Zips (names : List (Text × ℕ)) (olds : List Shard) (shard_plans : List PlannedShard) (news : List Shard) : Type 0 where
  pub zs : List Triple
  pub olds_are : olds_of zs ≡ olds
  pub shard_plans_are : shard_plans_of zs ≡ shard_plans
  pub news_are : news_of zs ≡ news
  pub each : (z : Triple) → Contains zs z → One names z

first_shard_plan : (x y : PlannedShard) (xs ys : List PlannedShard) → x ∷ xs ≡ y ∷ ys → x ≡ y
first_shard_plan x y xs ys e = cc

more_shard_plans : (x y : PlannedShard) (xs ys : List PlannedShard) → x ∷ xs ≡ y ∷ ys → xs ≡ ys
more_shard_plans x y xs ys e = cc

module _ {S : Type 0} (contents : S → Snaps) (fails : S → ℕ) (names : List (Text × ℕ)) where
  abbrev view : Text × S → Shard
  view = shown contents fails

  abbrev plan_of : Text × S → PlannedShard
  plan_of entry = shard_plan_for names entry.0

  one_of : (x y : ShardJob S) → x.shard_plan ≡ plan_of x.entry → SweepsJob contents fails x y
      → One names (view x.entry, y.shard_plan, view y.entry)
  one_of x y is s = record {
    new_name = s.name;
    shard_plan_name = ap (λ (k : PlannedShard). k.snapshotter) s.shard_plan_is ∙ ap (λ (k : PlannedShard). k.snapshotter) is;
    list_is = ap (λ (k : PlannedShard). k.list) s.shard_plan_is ∙ ap (λ (k : PlannedShard). k.list) is;
    sweeps = subst (λ (xs : List ℕ). Sweeps xs (contents x.entry.1) (contents y.entry.1) (fails x.entry.1) (fails y.entry.1) y.shard_plan.swept) (sym (ap (λ (k : PlannedShard). k.list) s.shard_plan_is)) s.sweeps;
  }

  pub shard_plan_at : (jobs : List (ShardJob S)) (i : ℕ) (d : ShardJob S) → i < length jobs
      → shard_plans_in jobs ≡ map plan_of (entries_in jobs)
      → (slice_index_or jobs i d).shard_plan ≡ plan_of (slice_index_or jobs i d).entry
  shard_plan_at [] i d lt are = absurd (omega (arith, lt))
  shard_plan_at (x ∷ jobs) zero d lt are = first_shard_plan x.shard_plan (plan_of x.entry) (shard_plans_in jobs) (map plan_of (entries_in jobs)) are
  shard_plan_at (x ∷ jobs) (suc i) d lt are = shard_plan_at jobs i d (omega (arith, lt)) (more_shard_plans x.shard_plan (plan_of x.entry) (shard_plans_in jobs) (map plan_of (entries_in jobs)) are)

  pub shard_there : (jobs : List (ShardJob S)) (i : ℕ) (d : ShardJob S) → i < length jobs
      → Contains (shards_in contents fails jobs) (view (slice_index_or jobs i d).entry)
  shard_there [] i d lt = absurd (omega (arith, lt))
  shard_there (x ∷ jobs) zero d lt = here (view x.entry) (shards_in contents fails jobs)
  shard_there (x ∷ jobs) (suc i) d lt = later (view x.entry) (shards_in contents fails jobs) (view (slice_index_or jobs i d).entry) (shard_there jobs i d (omega (arith, lt)))

  pub zipped : (jobs new : List (ShardJob S)) → shard_plans_in jobs ≡ map plan_of (entries_in jobs)
      → length new ≡ length jobs
      → ((i : ℕ) (d : ShardJob S) → i < length jobs → SweepsJob contents fails (slice_index_or jobs i d) (slice_index_or new i d))
      → Zips names (shards_in contents fails jobs) (shard_plans_in new) (shards_in contents fails new)
  zipped [] [] are same each = record { zs = []; olds_are = refl; shard_plans_are = refl; news_are = refl; each = λ z c. none_in_nothing z c }
  zipped [] (y ∷ new) are same each = absurd (omega (arith, same))
  zipped (x ∷ jobs) [] are same each = absurd (omega (arith, same))
  zipped (x ∷ jobs) (y ∷ new) are same each =
      let first : x.shard_plan ≡ plan_of x.entry = first_shard_plan x.shard_plan (plan_of x.entry) (shard_plans_in jobs) (map plan_of (entries_in jobs)) are in
      let rest = zipped jobs new (more_shard_plans x.shard_plan (plan_of x.entry) (shard_plans_in jobs) (map plan_of (entries_in jobs)) are) (omega (arith, same)) (λ i d lt. each (suc i) d (omega (arith, lt))) in
      record {
        zs = (view x.entry, y.shard_plan, view y.entry) ∷ rest.zs;
        olds_are = ap (λ (k : List Shard). view x.entry ∷ k) rest.olds_are;
        shard_plans_are = ap (λ (k : List PlannedShard). y.shard_plan ∷ k) rest.shard_plans_are;
        news_are = ap (λ (k : List Shard). view y.entry ∷ k) rest.news_are;
        each = λ z c. elim (first_or_later (view x.entry, y.shard_plan, view y.entry) rest.zs z c) [
          | inl same ↦ subst (One names) same (one_of x y first (each 0 x (omega arith)))
          | inr more ↦ rest.each z more
        ];
      }

-- ---- what stands at a name

less_greater : (a b : Text) → text_cmp a b ≡ Less → text_cmp b a ≡ Greater
less_greater a b h = nat_list_cmp_total.antisymm b a ∙ ap ordering_reverse h

pub less_differ : (a b : Text) → text_cmp a b ≡ Less → bytes_eq a b ≡ false
less_differ a b h = sym (is_eq-slice_cmp a b) ∙ ap is_eq h

pub behind_head : (t : Text) (zs : List Triple)
    → AllByRecursion (λ y. text_cmp t y ≡ Less) (map (λ (s : Shard). s.snapshotter) (olds_of zs))
    → (z : Triple) → Contains zs z → text_cmp t z.0.snapshotter ≡ Less
behind_head t [] h z c = none_in_nothing z c
behind_head t (w ∷ zs) h z c = elim (first_or_later w zs z c) [
  | inl same ↦ ap (λ (x : Triple). text_cmp t x.0.snapshotter) (sym same) ∙ h.0
  | inr more ↦ behind_head t zs h.1 z more
]

pub shard_found : (zs : List Triple) → AreApart (olds_of zs) → (z : Triple) → Contains zs z
    → snaps_at z.0.snapshotter (olds_of zs) ≡ z.0.snaps
shard_found [] apart z c = none_in_nothing z c
shard_found (w ∷ zs) apart z c = elim (first_or_later w zs z c) [
  | inl same ↦ subst (λ (x : Triple). snaps_at x.0.snapshotter (olds_of (w ∷ zs)) ≡ x.0.snaps) same (rw (tied_itself nat_list_cmp_total w.0.snapshotter) refl)
  | inr more ↦ rw (less_greater w.0.snapshotter z.0.snapshotter (behind_head w.0.snapshotter zs (apart_head w.0 (olds_of zs) apart) z more)) (shard_found zs (apart_rest w.0 (olds_of zs) apart) z more)
]

module _ (names : List (Text × ℕ)) where
  pub shard_plan_found : (zs : List Triple) → AreApart (olds_of zs)
      → ((z : Triple) → Contains zs z → One names z) → (z : Triple) → Contains zs z
      → find (λ (shard_plan : PlannedShard). bytes_eq shard_plan.snapshotter z.0.snapshotter) (shard_plans_of zs) ≡ Some z.1
  shard_plan_found [] apart each z c = none_in_nothing z c
  shard_plan_found (w ∷ zs) apart each z c = elim (first_or_later w zs z c) [
    | inl same ↦ subst (λ (x : Triple). find (λ (shard_plan : PlannedShard). bytes_eq shard_plan.snapshotter x.0.snapshotter) (shard_plans_of (w ∷ zs)) ≡ Some x.1) same
        (rw ((bytes_eq-Decides w.1.snapshotter w.0.snapshotter).1 (each w (here w zs)).shard_plan_name) refl)
    | inr more ↦ (
        let differ : bytes_eq w.1.snapshotter z.0.snapshotter ≡ false = ap (λ (t : Text). bytes_eq t z.0.snapshotter) (each w (here w zs)).shard_plan_name
        ∙ less_differ w.0.snapshotter z.0.snapshotter (behind_head w.0.snapshotter zs (apart_head w.0 (olds_of zs) apart) z more) in
        rw differ (shard_plan_found zs (apart_rest w.0 (olds_of zs) apart) (λ x d. each x (later w zs x d)) z more))
  ]

-- a snapshot of all stands in a shard of its snapshotter
in_images : {X Y : Type 0} (f : X → Y) (xs : List X) (y : Y) → Contains (map f xs) y
    → (x : X) × (f x ≡ y)
in_images f [] y c = none_in_nothing y c
in_images f (x ∷ xs) y c = elim (first_or_later (f x) (map f xs) y c) [ inl same ↦ (x, same) | inr more ↦ in_images f xs y more ]

pub shard_of : (zs : List Triple) (x : BackSnap) → Contains (all_snaps (olds_of zs)) x
    → (z : Triple) × Contains zs z × (z.0.snapshotter ≡ x.snapshotter)
shard_of [] x c = none_in_nothing x c
shard_of (w ∷ zs) x c = elim (in_part (snaps_in w.0) (all_snaps (olds_of zs)) x c) [
  | inl a ↦ (let e = in_images (back_snap w.0.snapshotter) (finmap.entries w.0.snaps) x a in (w, here w zs, ap (λ (s : BackSnap). s.snapshotter) e.1))
  | inr b ↦ (let r = shard_of zs x b in (r.0, later w zs r.0 r.1, r.2))
]

-- ---- filters

pub filter_twice : {X : Type 0} (p q : X → Bool) (xs : List X)
    → filter q (filter p xs) ≡ filter (λ x. p x && q x) xs
filter_twice p q [] = refl
filter_twice p q (x ∷ xs) = elim (cases_Bool (p x)) [
  | inl t ↦ rw t (ap (λ (l : List _). cond (q x) (x ∷ l) l) (filter_twice p q xs))
  | inr f ↦ rw f (filter_twice p q xs)
]

pub filter_images : {X Y : Type 0} (f : X → Y) (p : Y → Bool) (xs : List X)
    → filter p (map f xs) ≡ map f (filter (λ x. p (f x)) xs)
filter_images f p [] = refl
filter_images f p (x ∷ xs) = elim (cases_Bool (p (f x))) [
  | inl t ↦ rw t (ap (λ (l : List _). f x ∷ l) (filter_images f p xs))
  | inr e ↦ rw e (filter_images f p xs)
]

-- ---- names

abbrev same_name : Text × ℕ → Text × ℕ → Bool
same_name name other = bytes_eq name.0 other.0 && name.1 == other.1

name_same : (a b : Text × ℕ) → a ≡ b → same_name a b ≡ true
name_same a b e = and_from (bytes_eq a.0 b.0) (a.1 == b.1) ((bytes_eq-Decides a.0 b.0).1 (ap (λ (x : Text × ℕ). x.0) e)) ((Decides-eqb a.1 b.1).1 (ap (λ (x : Text × ℕ). x.1) e))

same_is_name : (a b : Text × ℕ) → same_name a b ≡ true → a ≡ b
same_is_name a b h =
    let parts = and_parts (bytes_eq a.0 b.0) (a.1 == b.1) h in
    let s = (bytes_eq-Decides a.0 b.0).0 parts.0 in
    let n = (Decides-eqb a.1 b.1).0 parts.1 in
    λ i. (s i, n i)

-- a number of a name is the number of the name
numbered : (names : List (Text × ℕ)) (s : Text) (n : ℕ) → has (numbers_of s names) n ≡ true
    → Contains names (s, n)
numbered [] s n h = absurd cc
numbered (name ∷ names) s n h = elim (cases_Bool (bytes_eq name.0 s)) [
  | inl t ↦ (
      let h' : (name.1 == n || has (numbers_of s names) n) ≡ true = rw t at h in
      elim (or_cases (name.1 == n) (has (numbers_of s names) n) h') [
        | inl this ↦ subst (Contains (name ∷ names)) (same_is_name name (s, n) (and_from (bytes_eq name.0 s) (name.1 == n) t this)) (here name names)
        | inr more ↦ later name names (s, n) (numbered names s n more)
      ])
  | inr f ↦ later name names (s, n) (numbered names s n (rw f at h))
]

-- ---- the sweep of all shards

pub record All3 (zs : List Triple) (tables : Tables) (goes : BackSnap → Bool) (names : List (Text × ℕ)) : Type 0 where
  pub named : Named (olds_of zs) goes names
  pub goes_is : (x : BackSnap) → goes x ≡ not (owns_snapshot tables x)
  pub first : (s : Text) → Childfirst (numbers_of s names) (snaps_at s (olds_of zs))
  pub each : (z : Triple) → Contains zs z → One names z

module _ (zs : List Triple) (tables : Tables) (goes : BackSnap → Bool) (names : List (Text × ℕ)) (w : All3 zs tables goes names) (failed : BackNames) (failed_are : failed.snapshots ≡ filter (is_failed (shard_plans_of zs)) names) where
  abbrev all : List BackSnap
  all = all_snaps (olds_of zs)

  abbrev shard_plans : List PlannedShard
  shard_plans = shard_plans_of zs

  abbrev apart : AreApart (olds_of zs)
  apart = w.named.apart

  module _ (z : Triple) (c : Contains zs z) where
    abbrev s : Text
    s = z.0.snapshotter

    abbrev r : Swept
    r = z.1.swept

    abbrev o : One names z
    o = w.each z c

    in_shard_plan_is : (tells : PlannedShard → ℕ → Bool) (n : ℕ)
        → in_shard_plan tells shard_plans (s, n) ≡ tells z.1 n
    in_shard_plan_is tells n = ap (λ (l : Option PlannedShard). option_map_or (λ (shard_plan : PlannedShard). tells shard_plan n) l false) (shard_plan_found names zs apart w.each z c)

    removed_among : (n : ℕ) → is_removed shard_plans (s, n) ≡ not (has r.failed n || has r.kept n)
    removed_among n = in_shard_plan_is (λ shard_plan k. not (has shard_plan.swept.failed k || has shard_plan.swept.kept k)) n

    pub failed_among : (n : ℕ) → is_failed shard_plans (s, n) ≡ has r.failed n
    failed_among n = in_shard_plan_is (λ shard_plan k. has shard_plan.swept.failed k) n

    failed_is : (n : ℕ)
        → list_any (λ (other : Text × ℕ). bytes_eq s other.0 && n == other.1) failed.snapshots ≡ has r.failed n
    failed_is n = ap (λ (l : List (Text × ℕ)). list_any (same_name (s, n)) l) failed_are ∙ elim (cases_Bool (has r.failed n)) [
      | inl t ↦ (
          let listed : has z.1.list n ≡ true = o.sweeps.sorted n ∙ or_right (has r.removed n) (has r.failed n || has r.kept n) (or_left (has r.failed n) (has r.kept n) t) in
          let there : Contains names (s, n) = numbered names s n (ap (λ (l : List ℕ). has l n) (sym o.list_is) ∙ listed) in
          any_from (same_name (s, n)) (filter (is_failed shard_plans) names) (s, n) (in_filter (is_failed shard_plans) names (s, n) there (failed_among n ∙ t)) (name_same (s, n) (s, n) refl) ∙ sym t)
      | inr f ↦ false_from_ne_true (list_any (same_name (s, n)) (filter (is_failed shard_plans) names)) (λ h.
          let other = found_by_any (same_name (s, n)) (filter (is_failed shard_plans) names) h in
          let fails = (from_filter (is_failed shard_plans) names other.0 other.1).1 in
          let same = same_is_name (s, n) other.0 other.2 in
          both_ways (has r.failed n) f (sym (failed_among n) ∙ ap (is_failed shard_plans) same ∙ fails)) ∙ sym f
    ]

    at : snaps_at s (olds_of zs) ≡ z.0.snaps
    at = shard_found zs apart z c

    listed : (n : ℕ) (p : Option ℕ) → finmap.get z.0.snaps n ≡ Some p
        → has z.1.list n ≡ goes (back_snap s (n, p))
    listed n p is = ap (λ (l : List ℕ). has l n) o.list_is ∙ listed_is (olds_of zs) goes names w.named s n p (ap (λ (m : Snaps). finmap.get m n) at ∙ is)

    pub of : Of (olds_of zs) tables failed s z.0.snaps z.2.snaps z.1.list z.0.failures z.2.failures r
    of = record {
      apart = apart;
      at = at;
      falls = falls_found (olds_of zs) goes names w.named s;
      first = subst (λ (l : List ℕ). Childfirst l z.0.snaps) (sym o.list_is) (subst (λ (m : Snaps). Childfirst (numbers_of s names) m) at (w.first s));
      sweeps = o.sweeps;
      ordered = w.named.ordered;
      failed_is = failed_is;
      listed_is = λ n p is. listed n p is ∙ w.goes_is (back_snap s (n, p));
    }

    stays_here : (n : ℕ) (p : Option ℕ) → finmap.get z.0.snaps n ≡ Some p
        → snapshot_object_stays tables all failed (back_snap s (n, p)) ≡ not (has r.removed n)
    stays_here = stays_is (olds_of zs) tables failed s z.0.snaps z.2.snaps z.1.list z.0.failures z.2.failures r of

    left_here : Left (snapshot_object_stays tables all failed) z.0 z.2
    left_here = record { same = o.new_name; gone = λ n. has r.removed n; left_is = o.sweeps.contents; stays = stays_here }

    -- a snapshot of this shard
    held_here : (x : BackSnap) → Contains all x → s ≡ x.snapshotter
        → finmap.get z.0.snaps x.number ≡ Some x.parent
    held_here x there e = ap (λ (m : Snaps). finmap.get m x.number) (sym at) ∙ member_is (olds_of zs) goes names w.named s x there (sym e)

    snap_is : (x : BackSnap) → s ≡ x.snapshotter → back_snap s (x.number, x.parent) ≡ x
    snap_is x e = λ i. record { snapshotter = e i; number = x.number; parent = x.parent }

    -- an object that was removed doesn't stay
    pub gone_here : (x : BackSnap) → Contains all x → s ≡ x.snapshotter
        → (goes x && is_removed shard_plans (object_name x)) ≡ not (snapshot_object_stays tables all failed x)
    gone_here x there e =
        let n = x.number in
        let is = held_here x there e in
        let g : goes x ≡ has z.1.list n = ap goes (sym (snap_is x e)) ∙ sym (listed n x.parent is) in
        let q : is_removed shard_plans (object_name x) ≡ not (has r.failed n || has r.kept n) = ap (λ (k : BackSnap). is_removed shard_plans (object_name k)) (sym (snap_is x e)) ∙ removed_among n in
        let t : snapshot_object_stays tables all failed x ≡ not (has r.removed n) = ap (snapshot_object_stays tables all failed) (sym (snap_is x e)) ∙ stays_here n x.parent is in
        (λ i. (g ∙ o.sweeps.sorted n) i && q i) ∙ go (has r.removed n) (has r.failed n) (has r.kept n) (o.sweeps.apart n) ∙ sym (ap not t)
      where
        go : (a f k : Bool) → (a ≡ true → (f ≡ false) × (k ≡ false))
            → ((a || (f || k)) && not (f || k)) ≡ not (not a)
        go true f k h = rw ((h refl).0, (h refl).1) refl
        go false true k h = refl
        go false false true h = refl
        go false false false h = refl

    pub apart_here : (x : BackSnap) → Contains all x → s ≡ x.snapshotter
        → list_any (λ name. is_named name x) failed.snapshots ≡ true
        → is_ancestor_of_one all failed.snapshots x ≡ false
    apart_here x there e h =
        ap (is_ancestor_of_one all failed.snapshots) (sym (snap_is x e))
        ∙ apart_is (olds_of zs) tables failed s z.0.snaps z.2.snaps z.1.list z.0.failures z.2.failures r of x.number x.parent (held_here x there e)
        (ap (λ (k : BackSnap). list_any (λ name. is_named name k) failed.snapshots) (snap_is x e) ∙ h)

  lefts : (ys : List Triple) → ((z : Triple) → Contains ys z → Contains zs z)
      → AreLeft (snapshot_object_stays tables all failed) (olds_of ys) (news_of ys)
  lefts [] h = tt
  lefts (y ∷ ys) h = (left_here y (h y (here y ys)), lefts ys (λ z c. h z (later y ys z c)))

  -- what is left of all
  pub snapshots_left : all_snaps (news_of zs) ≡ filter (snapshot_object_stays tables all failed) all
  snapshots_left = all_left (snapshot_object_stays tables all failed) (olds_of zs) (news_of zs) (lefts zs (λ z c. c))

  -- the names of what is gone
  pub snapshots_removed : filter (is_removed shard_plans) names ≡ map object_name (in_order (goes_before all) (filter (λ snap. not (snapshot_object_stays tables all failed snap)) all))
  snapshots_removed =
      ap (filter (is_removed shard_plans)) w.named.names_are
      ∙ filter_images object_name (is_removed shard_plans) (in_order (goes_before all) (filter goes all))
      ∙ ap (map object_name) (order_left (goes_before all) w.named.one_way w.named.chain (λ x. is_removed shard_plans (object_name x)) (filter goes all)
      ∙ ap (in_order (goes_before all)) (filter_twice goes (λ x. is_removed shard_plans (object_name x)) all
      ∙ same_kept (λ x. goes x && is_removed shard_plans (object_name x)) (λ snap. not (snapshot_object_stays tables all failed snap)) all (λ x c. (let z = shard_of zs x c in gone_here z.0 z.1 x c z.2))))

  -- just the failed ones are among them
  pub failed_fit : failed.snapshots ≡ filter (λ name. list_any (λ other. bytes_eq other.0 name.0 && other.1 == name.1) failed.snapshots) names
  failed_fit = failed_are ∙ same_kept (is_failed shard_plans) (λ name. list_any (λ other. bytes_eq other.0 name.0 && other.1 == name.1) failed.snapshots) names (λ name c. sym (go name c))
    where
      go : (name : Text × ℕ) → Contains names name
          → list_any (λ other. same_name other name) failed.snapshots ≡ is_failed shard_plans name
      go name c = ap (λ (l : List (Text × ℕ)). list_any (λ other. same_name other name) l) failed_are ∙ elim (cases_Bool (is_failed shard_plans name)) [
        | inl t ↦ any_from (λ other. same_name other name) (filter (is_failed shard_plans) names) name (in_filter (is_failed shard_plans) names name c t) (name_same name name refl) ∙ sym t
        | inr f ↦ false_from_ne_true (list_any (λ other. same_name other name) (filter (is_failed shard_plans) names)) (λ h.
            let other = found_by_any (λ other. same_name other name) (filter (is_failed shard_plans) names) h in
            both_ways (is_failed shard_plans name) f (ap (is_failed shard_plans) (sym (same_is_name other.0 name other.2)) ∙ (from_filter (is_failed shard_plans) names other.0 other.1).1)) ∙ sym f
      ]

  pub failed_apart : All (λ snap. IsTrue (list_any (λ name. is_named name snap) failed.snapshots) → is_ancestor_of_one all failed.snapshots snap ≡ false) all
  failed_apart k d lt h = (
      let x = slice_index_or all k d in
      let c : Contains all x = in_place all k d lt in
      let z = shard_of zs x c in
      apart_here z.0 z.1 x c z.2 h)
    where
      in_place : (xs : List BackSnap) (k : ℕ) (d : BackSnap) → k < length xs
          → Contains xs (slice_index_or xs k d)
      in_place [] k d lt = absurd (omega (arith, lt))
      in_place (x ∷ xs) zero d lt = here x xs
      in_place (x ∷ xs) (suc k) d lt = later x xs (slice_index_or xs k d) (in_place xs k d (omega (arith, lt)))
