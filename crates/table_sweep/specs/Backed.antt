-- What the backends list, and the tables that masks leave. Ours, unless a source stands beside.
use Rattle.std.specs.Prelude.{map}
use Rattle.meta_types.specs.Rows.{Tables, Records, BackLists}
use Rattle.object_tables.specs.Calls.{kept}
use Rattle.row_tables.specs.Arrived.{one_text, sorted}
use Rattle.table_sweep.specs.Depths.{snap_of}
use Rattle.table_sweep.specs.declared.masks.Masks.{Masks}
use Rattle.table_sweep.specs.declared.objects.BackRows.{BackRows}

-- borrowed lists, as the definitions have them
abbrev pub lists_of : BackRows → BackLists
lists_of back = record { blobs = sorted one_text back.blobs.now; snapshots = map snap_of back.snapshots.now; ingests = back.ingests.now }

-- the tables that the masks leave
abbrev pub left_by : Records → Masks → Tables
left_by records masks = record records.tables {
  images = kept masks.images.items records.tables.images;
  content = kept masks.content.items records.tables.content;
  ingests = kept masks.ingests.items records.tables.ingests;
  snapshots = kept masks.snapshots.items records.tables.snapshots;
}
