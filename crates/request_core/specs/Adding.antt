-- What a row that is added fits.
use Rattle.std.specs.Prelude.{◌≡◌, ℕ, Bool, true, List, Option, None}
use Rattle.std.specs.List.{list_any}
use Rattle.std.specs.Option.{option_map_or}
use Rattle.meta_types.specs.Text.{Text}
use Rattle.meta_types.specs.Keys.{has_row, add_row}
use Rattle.meta_types.specs.Rows.{Tables, ingest_key, snap_key}
use Rattle.meta_types.specs.Backends.{is_named}
use Rattle.meta_types.specs.Sound.{AreNumbered}
use Rattle.meta_types.specs.declared.rows.IngestRow.{IngestRow}
use Rattle.meta_types.specs.declared.rows.SnapRow.{SnapRow}
use Rattle.object_tables.specs.Calls.{adding_fault, adding_snap_fault}
use Rattle.back_model.specs.Shown.{Shard, all_snaps}

-- if the ingest may be added, its number is apart from those of all others
abbrev pub IsNumberedIngest : Tables → IngestRow → Type 0
IsNumberedIngest tables row =
    adding_fault tables row.ns (has_row ingest_key (ingest_key row) tables.ingests) ≡ None
    → AreNumbered tables.snapshots (add_row ingest_key row tables.ingests)

-- if the snapshot may be added, its parent is there, and its number is apart from all others
abbrev pub IsNumberedSnap : Tables → SnapRow → Type 0
IsNumberedSnap tables row = adding_snap_fault tables row ≡ None
    → AreNumbered (add_row snap_key row tables.snapshots) tables.ingests

-- the backend has a snapshot of this snapshotter with this number
abbrev pub has_snap : List Shard → Text → ℕ → Bool
has_snap shards snapshotter number = list_any (is_named (snapshotter, number)) (all_snaps shards)

-- the backend has the snapshot that is to lie below, if one is
abbrev pub has_above : List Shard → Text → Option ℕ → Bool
has_above shards snapshotter above = option_map_or (has_snap shards snapshotter) above true
