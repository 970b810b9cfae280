-- What a shard of snapshots holds. Ours, unless a source stands beside.
use Rattle.std.specs.Prelude.{ℕ, Bool, true, false, not, ◌&&◌, Option, ◌==◌, length, option_and_then}
use Rattle.std.specs.List.{list_any}
use Rattle.std.specs.Option.{option_map_or}
use Rattle.std.specs.Ordering.{nat_cmp}
use Rattle.std.specs.FinMap as finmap

-- from each number to the number of the parent, if it has one (parents: containerd snapshots
-- service)
abbrev pub Snaps : Type 0
Snaps = finmap.FinMap nat_cmp (Option ℕ)

-- the snapshot is there
abbrev pub is_held : Snaps → ℕ → Bool
is_held snaps number = finmap.contains_key snaps number

-- no snapshot is there
abbrev pub is_empty : Snaps → Bool
is_empty snaps = length (finmap.entries snaps) == 0

-- the parent that is named is there, if one is named (containerd snapshots service)
abbrev pub is_parent_held : Snaps → Option ℕ → Bool
is_parent_held snaps parent = option_map_or (is_held snaps) parent true

-- the number of its parent, where it is there and has one
abbrev pub parent_of : Snaps → ℕ → Option ℕ
parent_of snaps number = option_and_then (λ parent. parent) (finmap.get snaps number)

-- this parent is that number
abbrev pub is_number : ℕ → Option ℕ → Bool
is_number number parent = option_map_or (λ above. above == number) parent false

-- some snapshot has it as its parent (containerd snapshots service)
abbrev pub has_child : Snaps → ℕ → Bool
has_child snaps number = list_any (λ entry. is_number number entry.1) (finmap.entries snaps)

-- the contents allow the snapshot to be made
abbrev pub accepts : Snaps → ℕ → Option ℕ → Bool
accepts snaps number parent = not (is_held snaps number) && is_parent_held snaps parent

-- the contents allow the snapshot to be removed (containerd snapshots service: a parent isn't
-- removed before its children)
abbrev pub gives_up : Snaps → ℕ → Bool
gives_up snaps number = is_held snaps number && not (has_child snaps number)
