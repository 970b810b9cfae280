-- The order of backend snapshots, by the numbers of their ancestors. Ours,
-- unless a source stands beside.
use Rattle.std.specs.Prelude.{ℕ, suc, zero, Bool, ◌&&◌, ◌||◌, ◌==◌, nat_lt, bytes_eq, find, List, length, Option, option_and_then}
use Rattle.std.specs.Option.{option_map_or}
use Rattle.std.specs.Ordering.{is_lt, nat_cmp, ordering_then}
use Rattle.std.specs.declared.cmp.Ordering.{Ordering}
use Rattle.meta_types.specs.Text.{Text, text_cmp}
use Rattle.meta_types.specs.Rows.{BackSnap}
use Rattle.table_sweep.specs.declared.depths.Key.{Key}

-- a backend snapshot as backends list it
abbrev pub Listed : Type 0
Listed = Text × ℕ × Option ℕ

-- the same as a record
abbrev pub snap_of : Listed → BackSnap
snap_of s = record { snapshotter = s.0; number = s.1; parent = s.2 }

-- the snapshot's parent among these (containerd snapshots service, parents)
abbrev pub parent_in : List Listed → Listed → Option Listed
parent_in snapshots snap = option_and_then (λ number. find
    (λ s. bytes_eq s.0 snap.0 && s.1 == number) snapshots) snap.2

-- how many ancestors it has; past `most` of them it counts no further
abbrev pub depth_in : ℕ → List Listed → Listed → ℕ
depth_in zero snapshots snap = zero
depth_in (suc most) snapshots snap = option_map_or (λ above. suc (depth_in most snapshots above))
    (parent_in snapshots snap) zero

-- a snapshot with its depth, which order it among the removed ones
abbrev pub key_at : Listed → ℕ → Key
key_at snap depth = record { snapshotter = snap.0; depth = depth; number = snap.1 }

-- what orders a removed snapshot
abbrev pub key_of : List Listed → Listed → Key
key_of snapshots snap = key_at snap (depth_in (length snapshots) snapshots snap)

-- by snapshotter, then the deepest first, then by number (children before parents: containerd
-- snapshots service)
abbrev pub is_first : Key → Key → Bool
is_first a b = is_lt (text_cmp a.snapshotter b.snapshotter)
    || bytes_eq a.snapshotter b.snapshotter && (nat_lt b.depth a.depth || a.depth == b.depth && nat_lt a.number b.number)

-- the same as an order
abbrev pub key_cmp : Key → Key → Ordering
key_cmp a b = ordering_then (ordering_then (text_cmp a.snapshotter b.snapshotter) (nat_cmp b.depth a.depth)) (nat_cmp a.number b.number)

-- a snapshot's snapshotter and number
abbrev pub key_name : Key → Text × ℕ
key_name key = (key.snapshotter, key.number)
