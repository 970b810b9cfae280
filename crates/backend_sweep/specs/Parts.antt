-- Names of snapshots that stand by snapshotter. Ours, unless a source stands beside.
use Rattle.std.specs.Prelude.{ℕ, List}
use Rattle.std.specs.List.Sorted.{IsSortedByKey}
use Rattle.meta_types.specs.Text.{Text, text_cmp}

-- no name's snapshotter is less than that of the name before
abbrev pub StandBySnapshotter : List (Text × ℕ) → Type 0
StandBySnapshotter names = IsSortedByKey (λ (name : Text × ℕ). name.0) text_cmp names
