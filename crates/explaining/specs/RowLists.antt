-- The records that a question is asked of. Ours, unless a source stands beside.
use Rattle.std.specs.Prelude.{◌≡◌}
use Rattle.meta_types.specs.Rows.{Records, image_key, container_key, content_key, ingest_key, snap_key, lease_key}
use Rattle.row_tables.specs.Arrived.{sorted}
use Rattle.request_core.specs.declared.state.Records.{Records as Kept}

-- the records, as the definitions have them
abbrev pub records_in : Kept → Records
records_in r = record { tables = r.tables; leases = r.leases; next = r.next; profile = r.profile }

-- the rows of the second are those of the first in the order of their keys; the namespaces and the
-- next backend number lead no path anywhere
pub record AreInOrder (arrived records : Records) : Type 0 where
  pub images : sorted image_key arrived.tables.images ≡ records.tables.images
  pub containers : sorted container_key arrived.tables.containers ≡ records.tables.containers
  pub leases : sorted lease_key arrived.leases ≡ records.leases
  pub ingests : sorted ingest_key arrived.tables.ingests ≡ records.tables.ingests
  pub content : sorted content_key arrived.tables.content ≡ records.tables.content
  pub snapshots : sorted snap_key arrived.tables.snapshots ≡ records.tables.snapshots
  pub profile : arrived.profile ≡ records.profile
