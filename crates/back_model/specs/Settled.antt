-- Shards as they stand in memory: those that are settled, and behind them the new ones. Ours.
use Rattle.std.specs.Prelude.{◌≡◌, ◌<◌, ◌≤◌, ℕ, false, Some, None, List, [], ◌∷◌, map, length, get_or, take, drop}
use Rattle.std.specs.BTreeMap.{is_at}
use Rattle.std.specs.List.{AllByRecursion, IsDistinct}
use Rattle.std.specs.List.Sorted.{IsStrictlySortedBy}
use Rattle.std.specs.Map.{lookup}
use Rattle.std.specs.Ordering.{eq_by_cmp}
use Rattle.meta_types.specs.Text.{Text, text_cmp}
use Rattle.back_model.specs.Shown.{Shard, AreApart, put_shard}

-- the shards in the order of their snapshotters
abbrev pub in_place : List Shard → List Shard
in_place [] = []
in_place (shard ∷ shards) = put_shard shard (in_place shards)

-- whose the shards are
abbrev pub snapshotters_of : List Shard → List Text
snapshotters_of shards = map (λ s. s.snapshotter) shards

-- no snapshotter stands twice
abbrev pub AreOnce : List Text → Type 0
AreOnce names = IsDistinct (eq_by_cmp text_cmp) names

-- the name at a place
abbrev pub IsAt : Text → ℕ → List Text → Type 0
IsAt name at names = (at < length names) × ((d : Text) → get_or names at d ≡ name)

-- the first ones stand in order. For each of the others the map has a place, and at that place it
-- stands
pub record AreSettled (names : List Text) (settled : ℕ) (places : List (Text × ℕ)) : Type 0 where
  pub within : settled ≤ length names
  pub front : IsStrictlySortedBy text_cmp (take settled names)
  pub found : (name : Text) (at : ℕ) → lookup (is_at (text_cmp name)) places ≡ Some at
      → IsAt name at names
  pub all : (name : Text) → lookup (is_at (text_cmp name)) places ≡ None
      → AllByRecursion (λ other. eq_by_cmp text_cmp name other ≡ false) (drop settled names)
  pub once : AreOnce names

-- the shards are put in order
pub record PutsInOrder (old new : List Shard) : Type 0 where
  pub apart : AreApart new
  pub same : new ≡ in_place old
