-- Names beside what became of them.
use Rattle.std.proofs.Common.{◌≡◌, ◌∙◌, ℕ, zero, suc, ◌+◌, ◌<◌, List, [], ◌∷◌, ◌++◌, length, take, slice_set, Bool, true, false, refl, ap, arith, if◌then◌else◌, drop, sym, slice_index_or, append_assoc, map}
use Rattle.std.specs.Prelude.{cond, filter, not, ◌||◌, find, Option, Some, None, bytes_eq}
use Rattle.std.specs.Option.{option_map_or}
use Rattle.std.proofs.lemmas.List.{take_more_set, take-append-drop, length-take-le}
use Rattle.std.proofs.Math.Seq.{take-suc}
use Rattle.backend_sweep.specs.declared.outcomes.Outcome.{Outcome}
use Rattle.backend_sweep.specs.declared.outcomes.Outcome.TheVariants as F
use Rattle.meta_types.specs.Text.{Text}
use Rattle.backend_sweep.specs.Shards.{has}
use Rattle.backend_sweep.specs.ShardPlans.{PlannedShard, outcome_in, outcome_of, is_removed, is_failed}
use Rattle.backend_sweep.specs.ObjectOutcomes.{names_with, was_removed, has_failed}

-- one more name is added to the chosen ones exactly if its outcome is chosen
pub names_with_more : {X : Type 0} (w : Outcome → Bool) (names : List X) (outcomes : List Outcome)
    (x : X) (f : Outcome)
    → length outcomes ≡ length names
    → names_with w (names ++ x ∷ []) (outcomes ++ f ∷ []) ≡ names_with w names outcomes
    ++ (if w f then x ∷ [] else [])
names_with_more w [] [] x f e = refl
names_with_more w [] (g ∷ outcomes) x f e = absurd (omega (arith, e))
names_with_more w (y ∷ names) [] x f e = absurd (omega (arith, e))
names_with_more w (y ∷ names) (g ∷ outcomes) x f e =
    let rest = names_with_more w names outcomes x f (omega (arith, e)) in
    elim (w g) as (λ (b : Bool). (if b then y ∷ names_with w (names ++ x ∷ []) (outcomes
    ++ f ∷ []) else names_with w (names ++ x ∷ []) (outcomes ++ f ∷ []))
    ≡ (if b then y ∷ names_with w names outcomes else names_with w names outcomes)
    ++ (if w f then x ∷ [] else [])) [
      | true ↦ ap (λ l. y ∷ l) rest
      | false ↦ rest
    ]

-- the names so far beside the outcomes so far: one more
pub one_more : {X : Type 0} (w : Outcome → Bool) (names : List X) (outcomes : List Outcome) (i : ℕ)
    (n : X) (f : Outcome)
    → take (i + 1) names ≡ take i names ++ n ∷ [] → i < length outcomes → length outcomes
    ≡ length names
    → names_with w (take (i + 1) names) (take (i + 1) (slice_set outcomes i f))
    ≡ names_with w (take i names) (take i outcomes) ++ (if w f then n ∷ [] else [])
one_more w names outcomes i n f took here same =
    (λ j. names_with w (took j) (take_more_set outcomes i f here j))
    ∙ names_with_more w (take i names) (take i outcomes) n f (omega (
      arith,
      length-take-le i outcomes (omega (arith, here)),
      length-take-le i names (omega
          (arith, here, same)),
    ))

-- the place's own element comes next
pub took_at : {X : Type 0} (xs : List X) (i : ℕ) (n : X) → n ≡ slice_index_or xs i n → i < length xs
    → take (i + 1) xs ≡ take i xs ++ n ∷ []
took_at xs i n is here =
    let onward : i + 1 ≡ suc i = omega arith in
    ap (λ k. take k xs) onward ∙ take-suc xs i n here ∙ ap (λ m. take i xs ++ m ∷ []) (sym is)

pub whole_at : {X : Type 0} (xs : List X) (i : ℕ) (n : X) → take (i + 1) xs ≡ take i xs ++ n ∷ []
    → take i xs ++ n ∷ drop (i + 1) xs ≡ xs
whole_at xs i n took = sym (append_assoc (take i xs) (n ∷ []) (drop (i + 1) xs)) ∙ ap (λ l. l ++ drop (i + 1) xs) (sym took) ∙ take-append-drop (i + 1) xs

-- what stands at a place, whatever would stand elsewhere
pub any_default : {X : Type 0} (xs : List X) (i : ℕ) (d e : X) → i < length xs
    → slice_index_or xs i d ≡ slice_index_or xs i e
any_default [] i d e here = absurd (omega (arith, here))
any_default (x ∷ xs) zero d e here = refl
any_default (x ∷ xs) (suc i) d e here = any_default xs i d e (omega (arith, here))

map_more : {X Y : Type 0} (f : X → Y) (xs : List X) (x : X)
    → map f (xs ++ x ∷ []) ≡ map f xs ++ f x ∷ []
map_more f [] x = refl
map_more f (y ∷ xs) x = ap (λ l. f y ∷ l) (map_more f xs x)

-- one more is set to the image of its name
pub set_more : {X : Type 0} (f : X → Outcome) (names : List X) (outcomes : List Outcome) (i : ℕ)
    (n : X) (g : Outcome)
    → take i outcomes ≡ map f (take i names) → n ≡ slice_index_or names i n → i < length names
    → length outcomes ≡ length names → g ≡ f n
    → take (i + 1) (slice_set outcomes i g) ≡ map f (take (i + 1) names)
set_more f names outcomes i n g so_far is here same g_is =
    take_more_set outcomes i g (omega (arith, here, same))
    ∙ (λ j. so_far j ++ g_is j ∷ [])
    ∙ sym (map_more f (take i names) n)
    ∙ ap (map f) (sym (took_at names i n is here))

-- names beside the images of their own
pub with_mapped : {X : Type 0} (w : Outcome → Bool) (f : X → Outcome) (p : X → Bool)
    → ((x : X) → w (f x) ≡ p x) → (xs : List X) → names_with w xs (map f xs) ≡ filter p xs
with_mapped w f p same [] = refl
with_mapped w f p same (x ∷ xs) =
    let rest = with_mapped w f p same xs in
    ap (λ (b : Bool). if b then x ∷ names_with w xs (map f xs) else names_with w xs (map f xs)) (same x)
    ∙ elim (p x) as (λ (b : Bool). (if b then x ∷ names_with w xs (map f xs) else names_with w xs (map f xs)) ≡ cond b (x ∷ filter p xs) (filter p xs)) [
      | true ↦ ap (λ l. x ∷ l) rest
      | false ↦ rest
    ]

-- ---- by plans

shard_plan_removed : (n : ℕ) (o : Option PlannedShard)
    → was_removed (outcome_in o n) ≡ option_map_or (λ (shard_plan : PlannedShard). not
    (has shard_plan.swept.failed n || has shard_plan.swept.kept n)) o false
shard_plan_removed n None = refl
shard_plan_removed n (Some shard_plan) = go (has shard_plan.swept.failed n) (has shard_plan.swept.kept n)
  where
    go : (f k : Bool)
        → was_removed (if f then F.Failed else if k then F.Kept else F.Removed) ≡ not (f || k)
    go true k = refl
    go false true = refl
    go false false = refl

shard_plan_failed : (n : ℕ) (o : Option PlannedShard)
    → has_failed (outcome_in o n) ≡ option_map_or (λ (shard_plan : PlannedShard). has
    shard_plan.swept.failed n) o false
shard_plan_failed n None = refl
shard_plan_failed n (Some shard_plan) = go (has shard_plan.swept.failed n) (has shard_plan.swept.kept n)
  where
    go : (f k : Bool) → has_failed (if f then F.Failed else if k then F.Kept else F.Removed) ≡ f
    go true k = refl
    go false true = refl
    go false false = refl

-- the outcomes are those of the plans
pub removed_by : (shard_plans : List PlannedShard) (names : List (Text
    × ℕ)) (outcomes : List Outcome)
    → outcomes ≡ map (outcome_of shard_plans) names
    → names_with was_removed names outcomes ≡ filter (is_removed shard_plans) names
removed_by shard_plans names outcomes are =
    ap (names_with was_removed names) are
    ∙ with_mapped was_removed (outcome_of shard_plans) (is_removed shard_plans)
    (λ name. shard_plan_removed name.1 (find (λ (shard_plan : PlannedShard). bytes_eq
    shard_plan.snapshotter name.0) shard_plans)) names

pub failed_by : (shard_plans : List PlannedShard) (names : List (Text
    × ℕ)) (outcomes : List Outcome)
    → outcomes ≡ map (outcome_of shard_plans) names
    → names_with has_failed names outcomes ≡ filter (is_failed shard_plans) names
failed_by shard_plans names outcomes are =
    ap (names_with has_failed names) are
    ∙ with_mapped has_failed (outcome_of shard_plans) (is_failed shard_plans)
    (λ name. shard_plan_failed name.1 (find (λ (shard_plan : PlannedShard). bytes_eq
    shard_plan.snapshotter name.0) shard_plans)) names
