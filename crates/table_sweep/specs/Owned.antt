-- Which rows own backend objects, and which objects are removed. Ours, unless a source stands
-- beside.
use Rattle.std.specs.Prelude.{ℕ, Bool, not, ◌&&◌, ◌==◌, bytes_eq, List}
use Rattle.std.specs.List.{list_any}
use Rattle.std.specs.Ordering.{nat_cmp, ordering_then}
use Rattle.std.specs.declared.cmp.Ordering.{Ordering}
use Rattle.meta_types.specs.Text.{Text, text_cmp}
use Rattle.meta_types.specs.declared.rows.ContentRow.{ContentRow}
use Rattle.meta_types.specs.declared.rows.SnapRow.{SnapRow}
use Rattle.table_sweep.specs.Depths.{Listed}

-- some row of content has the digest (containerd content-flow.md)
abbrev pub owns_blob : List ContentRow → Text → Bool
owns_blob rows digest = list_any (λ row. bytes_eq row.digest digest) rows

-- what a snapshot's row owns: a number of a snapshotter
abbrev pub object_of : SnapRow → Text × ℕ
object_of row = (row.key.snapshotter, row.number)

-- the name of a backend snapshot
abbrev pub name_of : Listed → Text × ℕ
name_of s = (s.0, s.1)

-- by number, then by snapshotter: most numbers differ
abbrev pub object_cmp : Text × ℕ → Text × ℕ → Ordering
object_cmp a b = ordering_then (nat_cmp a.1 b.1) (text_cmp a.0 b.0)

-- ---- the removed objects: no row that stays owns them

-- an ingest's object
abbrev pub is_begun_removed : List ℕ → ℕ → Bool
is_begun_removed owned number = not (list_any (λ other. other == number) owned)

-- a snapshot's object
abbrev pub is_snap_removed : List SnapRow → Listed → Bool
is_snap_removed owners s = not (list_any (λ row. bytes_eq row.key.snapshotter s.0 && row.number ==
    s.1) owners)
