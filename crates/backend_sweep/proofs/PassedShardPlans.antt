-- Plans that a look for a snapshotter passes are those of lesser ones.
use Rattle.std.proofs.Common.{◌≡◌, ◌∙◌, ℕ, ◌+◌, ◌<◌, ◌≤◌, Bool, true, false, List, ◌∷◌, length, drop, refl, sym, ap, slice_index_or, inl, inr}
use Rattle.std.specs.Prelude.{Some, bytes_eq, find}
use Rattle.std.specs.Ordering.{is_lt, is_le, is_eq, is_gt, ordering_reverse}
use Rattle.std.specs.declared.cmp.Ordering.{Ordering}
use Rattle.std.specs.declared.cmp.Ordering.TheVariants.{Less, Equal, Greater}
use Rattle.std.specs.Cmp.Lexicographic.{nat_list_cmp_total}
use Rattle.std.proofs.lemmas.Bool.{cases_Bool, both_ways}
use Rattle.std.proofs.lemmas.List.{drop_more}
use Rattle.std.proofs.lemmas.Map.Text.{is_eq-slice_cmp}
use Rattle.std.proofs.lemmas.Slice.Eq.{bytes_eq-Decides}
use Rattle.meta_types.specs.Text.{Text, text_cmp}
use Rattle.backend_sweep.specs.Parts.{StandBySnapshotter}
use Rattle.backend_sweep.specs.ShardPlans.{PlannedShard, StandFrom, IsPlanAt}
use Rattle.backend_sweep.proofs.ObjectOutcomes.{any_default}
use Rattle.backend_sweep.proofs.OnePart.{ends}

-- ---- tests of three answers

not_back : (r : Ordering) → is_lt r ≡ true → is_le (ordering_reverse r) ≡ false
not_back Less t = refl
not_back Equal t = absurd cc
not_back Greater t = absurd cc

as_itself : (r : Ordering) → r ≡ ordering_reverse r → is_le r ≡ true
as_itself Less e = absurd cc
as_itself Equal e = refl
as_itself Greater e = absurd cc

neither : (r : Ordering) → is_eq r ≡ false → is_gt r ≡ false → is_lt r ≡ true
neither Less e g = refl
neither Equal e g = absurd cc
neither Greater e g = absurd cc

-- ---- texts

-- none is less than itself
not_less : (s : Text) → is_le (text_cmp s s) ≡ true
not_less s = as_itself (text_cmp s s) (nat_list_cmp_total.antisymm s s)

-- what is less than a text isn't one that the text is less than, or the same
another : (a s other : Text) → is_lt (text_cmp a s) ≡ true → is_le (text_cmp s other) ≡ true
    → bytes_eq a other ≡ false
another a s other less le = elim (cases_Bool (bytes_eq a other)) [
  | inl t ↦ (
      let is : a ≡ other = (bytes_eq-Decides a other).0 t in
      let back : is_le (text_cmp s a) ≡ false
      = ap is_le (nat_list_cmp_total.antisymm s a) ∙ not_back (text_cmp a s) less in
      absurd (both_ways (is_le (text_cmp s a)) back (ap (λ (x : Text). is_le (text_cmp s x)) is ∙ le)))
  | inr f ↦ f
]

-- ---- the first that is found

module _ {X : Type 0} (p : X → Bool) (x : X) (xs : List X) where
  finds : p x ≡ true → find p (x ∷ xs) ≡ Some x
  finds t = rw t refl

  finds_later : p x ≡ false → find p (x ∷ xs) ≡ find p xs
  finds_later f = rw f refl

-- ---- plans

abbrev is_of : Text → PlannedShard → Bool
is_of s shard_plan = bytes_eq shard_plan.snapshotter s

module _ (shard_plans : List PlannedShard) (place : ℕ) where
  module _ (s : Text) (shard_plan : PlannedShard) (here : place < length shard_plans)
      (is : shard_plan ≡ slice_index_or shard_plans place shard_plan)
      (passed : StandFrom shard_plans place s) where
    -- a lesser one's plan is passed
    pub passed_more : is_eq (text_cmp shard_plan.snapshotter s) ≡ false
        → is_gt (text_cmp shard_plan.snapshotter s) ≡ false → StandFrom shard_plans (place + 1) s
    passed_more unlike not_above other le =
        let less = neither (text_cmp shard_plan.snapshotter s) unlike not_above in
        passed other le
        ∙ ap (find (is_of other)) (drop_more shard_plans place shard_plan here)
        ∙ finds_later (is_of other) _ _ (ap (is_of other) (sym is) ∙ another shard_plan.snapshotter s other less le)

    -- its own plan is there
    pub plan_there : is_eq (text_cmp shard_plan.snapshotter s) ≡ true → IsPlanAt shard_plans s place
    plan_there same =
        let own = sym (is_eq-slice_cmp shard_plan.snapshotter s) ∙ same in (
          here,
          λ d. passed s (not_less s)
              ∙ ap (find (is_of s)) (drop_more shard_plans place shard_plan here)
              ∙ finds (is_of s) _ _ (ap (is_of s) (sym is) ∙ own)
              ∙ ap (λ (o : PlannedShard). Some o) (any_default shard_plans place shard_plan d here),
        )

  -- what one name passed, no later one has
  pub passed_on : (names : List (Text × ℕ)) → StandBySnapshotter names
      → (i : ℕ) (n : Text × ℕ) → n ≡ slice_index_or names i n → i < length names
      → StandFrom shard_plans place n.0
      → (k : ℕ) (d : Text × ℕ) → i ≤ k → k < length names
      → StandFrom shard_plans place (slice_index_or names k d).0
  passed_on names stand i n is here passed k d above inside other le =
      passed other (ap (λ (x : Text × ℕ). is_le (text_cmp x.0 other)) (is ∙ any_default names i n d here)
      ∙ ends other names stand i k d above inside le)
