-- Rows that are lent as they arrived. Ours.
use Rattle.std.specs.Prelude.{ℕ, List, [], ◌≡◌}
use Rattle.meta_types.specs.Rows.{Records, LeaseRow}
use Rattle.meta_types.specs.declared.rows.ContentRow.{ContentRow}
use Rattle.meta_types.specs.declared.rows.IngestRow.{IngestRow}
use Rattle.meta_types.specs.declared.rows.SnapRow.{SnapRow}
use Rattle.object_tables.specs.declared.arrived.ArrivedRows.{ArrivedRows}

-- rows that are lent: the namespaces and the next backend number lead no
-- path anywhere, and are left out
abbrev pub lent_in : ArrivedRows → List LeaseRow → ℕ → Records
lent_in rows leases profile = record {
  tables = record {
    namespaces = [];
    images = rows.images.now;
    containers = rows.containers.now;
    content = rows.content.now;
    ingests = rows.ingests.now;
    snapshots = rows.snapshots.now;
  };
  leases = leases;
  next = 1;
  profile = profile;
}

-- the places are those of the rows of these lists
pub record HavePlaces (ingest_places ingest_rows : List IngestRow)
    (content_places content_rows : List ContentRow)
    (snapshot_places snapshot_rows : List SnapRow) : Type 0 where
  pub ingests : ingest_places ≡ ingest_rows
  pub content : content_places ≡ content_rows
  pub snapshots : snapshot_places ≡ snapshot_rows
