-- All devices together failed as often as removals of snapshots failed.
use Rattle.std.proofs.Common.{◌≡◌, ℕ, ◌+◌, List, [], ◌∷◌, length, Bool, true, false, refl, sym, ◌∙◌, ap, inl, inr, arith}
use Rattle.std.specs.Prelude.{Option, Some, None, bytes_eq, find, filter, cond, Contains, ◌&&◌, ◌||◌}
use Rattle.std.specs.Option.{option_map_or}
use Rattle.std.proofs.lemmas.List.{length-map}
use Rattle.std.proofs.lemmas.Bool.{cases_Bool, both_ways, and_parts, false_from_ne_true}
use Rattle.std.proofs.lemmas.Slice.Eq.{bytes_eq-Decides}
use Rattle.meta_types.specs.Text.{Text, text_cmp}
use Rattle.meta_types.proofs.Members.{here, later}
use Rattle.std.specs.declared.cmp.Ordering.TheVariants.{Less}
use Rattle.back_model.specs.Shown.{AreApart, all_failures}
use Rattle.back_model.proofs.ShardPlaces.{apart_head, apart_rest}
use Rattle.backend_sweep.specs.Shards.{has}
use Rattle.backend_sweep.specs.ShardPlans.{PlannedShard, is_failed}
use Rattle.backend_sweep.proofs.Zipped.{Triple, olds_of, shard_plans_of, news_of, One, less_differ, behind_head, filter_twice, filter_images}

turned : (a b : Text) → bytes_eq a b ≡ bytes_eq b a
turned a b = elim (cases_Bool (bytes_eq b a)) [
  | inl t ↦ (bytes_eq-Decides a b).1 (sym ((bytes_eq-Decides b a).0 t)) ∙ sym t
  | inr f ↦ false_from_ne_true (bytes_eq a b) (λ h. both_ways (bytes_eq b a) f ((bytes_eq-Decides b a).1 (sym ((bytes_eq-Decides a b).0 h)))) ∙ sym f
]

module _ {X : Type 0} (p q r : X → Bool) (splits : (x : X) → r x ≡ (p x || q x)) (apart : (x : X) → p x ≡ true → q x ≡ false) where
  both_counts : (xs : List X) → length (filter r xs) ≡ length (filter p xs) + length (filter q xs)
  both_counts [] = refl
  both_counts (x ∷ xs) = ap (λ (b : Bool). length (cond b (x ∷ filter r xs) (filter r xs))) (splits x) ∙ go (p x) (q x) (apart x) (both_counts xs)
    where
      go : (a b : Bool) → (a ≡ true → b ≡ false)
          → length (filter r xs) ≡ length (filter p xs) + length (filter q xs)
          → length (cond (a || b) (x ∷ filter r xs) (filter r xs)) ≡ length (cond a (x ∷ filter p xs) (filter p xs)) + length (cond b (x ∷ filter q xs) (filter q xs))
      go true b h e = rw (h refl) (omega (arith, e))
      go false true h e = omega (arith, e)
      go false false h e = e

none_kept : {X : Type 0} (xs : List X) → length (filter (λ (x : X). false) xs) ≡ 0
none_kept [] = refl
none_kept (x ∷ xs) = none_kept xs

module _ (names : List (Text × ℕ)) where
  abbrev among : List Triple → Text × ℕ → Bool
  among zs = is_failed (shard_plans_of zs)

  none_found : (t : Text) (ys : List Triple) → ((z : Triple) → Contains ys z → One names z)
      → ((z : Triple) → Contains ys z → text_cmp t z.0.snapshotter ≡ Less)
      → find (λ (shard_plan : PlannedShard). bytes_eq shard_plan.snapshotter t) (shard_plans_of ys) ≡ None
  none_found t [] each less = refl
  none_found t (y ∷ ys) each less =
      let differ : bytes_eq y.1.snapshotter t ≡ false = ap (λ (u : Text). bytes_eq u t) (each y (here y ys)).shard_plan_name ∙ turned y.0.snapshotter t ∙ less_differ t y.0.snapshotter (less y (here y ys)) in
      rw differ (none_found t ys (λ z c. each z (later y ys z c)) (λ z c. less z (later y ys z c)))

  module _ (y : Triple) (ys : List Triple) (apart : AreApart (olds_of (y ∷ ys))) (each : (z : Triple) → Contains (y ∷ ys) z → One names z) where
    abbrev mine : Text × ℕ → Bool
    mine name = bytes_eq name.0 y.0.snapshotter && has y.1.swept.failed name.1

    not_later : (name : Text × ℕ) → bytes_eq name.0 y.0.snapshotter ≡ true → among ys name ≡ false
    not_later name t =
        let same = (bytes_eq-Decides name.0 y.0.snapshotter).0 t in
        let none = none_found y.0.snapshotter ys (λ z c. each z (later y ys z c)) (behind_head y.0.snapshotter ys (apart_head y.0 (olds_of ys) apart)) in
        ap (λ (o : Option PlannedShard). option_map_or (λ (shard_plan : PlannedShard). has shard_plan.swept.failed name.1) o false) (ap (λ (u : Text). find (λ (shard_plan : PlannedShard). bytes_eq shard_plan.snapshotter u) (shard_plans_of ys)) same ∙ none)

    first_test : (name : Text × ℕ)
        → bytes_eq y.1.snapshotter name.0 ≡ bytes_eq name.0 y.0.snapshotter
    first_test name = ap (λ (u : Text). bytes_eq u name.0) (each y (here y ys)).shard_plan_name ∙ turned y.0.snapshotter name.0

    test_splits : (name : Text × ℕ) → among (y ∷ ys) name ≡ (mine name || among ys name)
    test_splits name =
        ap (λ (b : Bool). option_map_or (λ (shard_plan : PlannedShard). has shard_plan.swept.failed name.1) (cond b (Some y.1) (find (λ (shard_plan : PlannedShard). bytes_eq shard_plan.snapshotter name.0) (shard_plans_of ys))) false) (first_test name)
        ∙ elim (cases_Bool (bytes_eq name.0 y.0.snapshotter)) [
          | inl t ↦ rw (t, not_later name t) (or_nothing (has y.1.swept.failed name.1))
          | inr f ↦ rw f refl
        ]
      where
        or_nothing : (b : Bool) → b ≡ (b || false)
        or_nothing true = refl
        or_nothing false = refl

    mine_count : length (filter mine names) ≡ length y.1.swept.failed
    mine_count =
        let o = each y (here y ys) in
        let h : ℕ → Bool = λ n. has y.1.swept.failed n in
        let own : Text × ℕ → Bool = λ name. bytes_eq name.0 y.0.snapshotter in
        sym (ap (λ (l : List ℕ). length l) (o.sweeps.failed_in_order ∙ ap (filter h) o.list_is ∙ filter_images (λ (name : Text × ℕ). name.1) h (filter own names))
        ∙ length-map (filter (λ name. h name.1) (filter own names)) (λ (name : Text × ℕ). name.1)
        ∙ ap (λ (l : List (Text × ℕ)). length l) (filter_twice own (λ name. h name.1) names))

    pub step_count : length (filter (among (y ∷ ys)) names) ≡ length y.1.swept.failed + length (filter (among ys) names)
    step_count = both_counts mine (among ys) (among (y ∷ ys)) test_splits (λ name h. not_later name (and_parts (bytes_eq name.0 y.0.snapshotter) (has y.1.swept.failed name.1) h).0) names ∙ ap (λ (k : ℕ). k + length (filter (among ys) names)) mine_count

  among_count : (zs : List Triple) → AreApart (olds_of zs)
      → ((z : Triple) → Contains zs z → One names z)
      → all_failures (news_of zs) ≡ all_failures (olds_of zs) + length (filter (among zs) names)
  among_count [] apart each = (let e = none_kept names in omega (arith, e))
  among_count (y ∷ ys) apart each =
      let rest = among_count ys (apart_rest y.0 (olds_of ys) apart) (λ z c. each z (later y ys z c)) in
      let one = (each y (here y ys)).sweeps.count in
      let step = step_count y ys apart each in
      omega (arith, rest, one, step)

  -- the count of all shards
  pub counted : (zs : List Triple) → AreApart (olds_of zs)
      → ((z : Triple) → Contains zs z → One names z)
      → all_failures (news_of zs) ≡ all_failures (olds_of zs) + length (filter (is_failed (shard_plans_of zs)) names)
  counted = among_count
