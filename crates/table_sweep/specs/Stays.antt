-- When masks are those of a collection. Ours, unless a source stands beside.
use Rattle.std.specs.Prelude.{◌≡◌, ℕ, List, map, length, count_by, Bool, ℤ}
use Rattle.meta_types.specs.Rows.{Tables, Records, LeaseRow, snap_key, ingest_key}
use Rattle.meta_types.specs.Sound.{AreNumbered}
use Rattle.meta_types.specs.Paths.{Thing, image_stays, lease_stays}
use Rattle.meta_types.specs.Collected.{content_stays, snapshot_stays, ingest_stays}
use Rattle.meta_types.specs.Reports.{Kept, Removed}
use Rattle.row_tables.specs.Arrived.{sorted}
use Rattle.object_tables.specs.Calls.{kept}
use Rattle.lease_book.specs.Calls.{kept as kept_leases}
use Rattle.table_sweep.specs.declared.masks.Masks.{Masks}
use Rattle.table_sweep.specs.Masks.{gone}

-- the masks say of each row, at its place, whether it stays
pub record AreMasks (records : Records) (at : ℤ) (reached : Thing → Bool) (masks : Masks) : Type 0 where
  pub images : masks.images.items ≡ map (image_stays records.profile at) records.tables.images
  pub leases : masks.leases.items ≡ map (lease_stays at) records.leases
  pub ingests : masks.ingests.items ≡ map (ingest_stays reached) records.tables.ingests
  pub content : masks.content.items ≡ map (content_stays reached) records.tables.content
  pub snapshots : masks.snapshots.items ≡ map (snapshot_stays reached) records.tables.snapshots

-- a collection: the records before it, its moment, and a test of what paths reach
pub record Collection : Type 0 where
  pub records : Records
  pub at : ℤ
  pub reached : Thing → Bool

-- each mask is as long as its kind has rows
pub record FitRows (tables : Tables) (held : List LeaseRow) (masks : Masks) : Type 0 where
  pub images : length masks.images.items ≡ length tables.images
  pub leases : length masks.leases.items ≡ length held
  pub ingests : length masks.ingests.items ≡ length tables.ingests
  pub content : length masks.content.items ≡ length tables.content
  pub snapshots : length masks.snapshots.items ≡ length tables.snapshots

-- a snapshot that stays keeps its parent, and no backend number is used twice among what stays of
-- these rows, in the order of their keys
pub record StayNumbered (tables : Tables) (masks : Masks) : Type 0 where
  pub numbered : AreNumbered (sorted snap_key (kept masks.snapshots.items tables.snapshots)) (sorted ingest_key (kept masks.ingests.items tables.ingests))

-- the rows that the masks keep; namespaces and containers all stay
abbrev pub left_tables : Masks → Tables → Tables
left_tables masks tables = record tables {
  images = kept masks.images.items tables.images;
  content = kept masks.content.items tables.content;
  ingests = kept masks.ingests.items tables.ingests;
  snapshots = kept masks.snapshots.items tables.snapshots;
}

-- the leases that their mask keeps
abbrev pub left_leases : Masks → List LeaseRow → List LeaseRow
left_leases masks leases = kept_leases masks.leases.items leases

-- the names of the rows that the masks leave out
abbrev pub gone_names : Records → Masks → Removed
gone_names records masks = record {
  content = map (λ row. (row.ns, row.digest)) (gone masks.content.items records.tables.content);
  images = map (λ row. (row.ns, row.name)) (gone masks.images.items records.tables.images);
  ingests = map (λ row. (row.ns, row.name)) (gone masks.ingests.items records.tables.ingests);
  leases = map (λ row. (row.ns, row.id)) (gone masks.leases.items records.leases);
  snapshots = map (λ row. (row.key.ns, row.key.snapshotter, row.key.name))
      (gone masks.snapshots.items records.tables.snapshots);
}

-- how many rows the masks keep
abbrev pub kept_counts : Records → Masks → ℕ → Kept
kept_counts records masks namespaces = record {
  containers = length records.tables.containers;
  content = count_by (λ stays. stays) masks.content.items;
  images = count_by (λ stays. stays) masks.images.items;
  ingests = count_by (λ stays. stays) masks.ingests.items;
  leases = count_by (λ stays. stays) masks.leases.items;
  namespaces = namespaces;
  snapshots = count_by (λ stays. stays) masks.snapshots.items;
}
