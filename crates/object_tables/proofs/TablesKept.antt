-- What each change of the tables keeps: `AreTables` after it. It passes on the lemmas on namespaces
-- (OtherTables) and snapshots (SnapTablesKept). A new row's parent: `has_parent` of ParentsKept.
use Rattle.std.proofs.Common.{◌≡◌, true, false, not}
use Rattle.std.specs.Prelude.{All, IsTrue, ◌==◌}
use Rattle.meta_types.specs.Keys.{Key, has_row, add_row, remove_row, change_row}
use Rattle.meta_types.specs.Rows.{Tables, ingest_key, image_key, container_key, content_key}
use Rattle.meta_types.specs.Changes.{has_namespace}
use Rattle.meta_types.specs.Sound.{AreTables}
use Rattle.meta_types.specs.declared.rows.ImageRow.{ImageRow}
use Rattle.meta_types.specs.declared.rows.ContainerRow.{ContainerRow}
use Rattle.meta_types.specs.declared.rows.ContentRow.{ContentRow}
use Rattle.meta_types.specs.declared.rows.IngestRow.{IngestRow}
use Rattle.meta_types.specs.declared.rows.SnapRow.{SnapRow}
use Rattle.meta_types.proofs.KeepsSound.{rows_added, rows_removed, rows_changed}
use Rattle.object_tables.proofs.NumbersKept.{
  numbered_ingest_added,
  numbered_ingest_removed,
  numbered_ingest_changed,
}
use Rattle.object_tables.proofs.OtherTables.{other_images, other_containers, other_content, other_ingests}
pub use Rattle.object_tables.proofs.OtherTables.{namespace_added, namespace_removed}
pub use Rattle.object_tables.proofs.SnapTablesKept.{
  snap_added,
  snap_removed,
  snap_reset,
  snap_committed,
  snapshots_again,
}

module _ (tables : Tables) (s : AreTables tables) where
  -- ---- images, containers and content

  -- the tables stay sound if an image is added whose key is free and whose namespace is there
  pub image_added : (row : ImageRow) → has_namespace tables row.ns ≡ true
      → has_row image_key (image_key row) tables.images ≡ false
      → AreTables (record tables { images = add_row image_key row tables.images })
  image_added row there free = other_images tables s _
      (rows_added image_key (λ (other : ImageRow). other.ns) tables.namespaces row tables.images
      there free s.images)

  -- the tables stay sound if an image is removed
  pub image_removed : (key : Key) → AreTables
      (record tables { images = remove_row image_key key tables.images })
  image_removed key =
      other_images tables s _
      (rows_removed image_key (λ (row : ImageRow). row.ns) tables.namespaces key tables.images
      s.images)

  -- the tables stay sound if an image changes, and keeps its key and its namespace
  pub image_changed : (key : Key) (change : ImageRow → ImageRow)
      → ((row : ImageRow) → image_key (change row) ≡ image_key row)
      → ((row : ImageRow) → (change row).ns ≡ row.ns)
      → AreTables (record tables { images = change_row image_key key change tables.images })
  image_changed key change same same_ns =
      other_images tables s _
      (rows_changed image_key (λ (row : ImageRow). row.ns) tables.namespaces key change same same_ns
      tables.images s.images)

  -- the tables stay sound if a container is added whose key is free and whose namespace is there
  pub container_added : (row : ContainerRow) → has_namespace tables row.ns ≡ true
      → has_row container_key (container_key row) tables.containers ≡ false
      → AreTables (record tables { containers = add_row container_key row tables.containers })
  container_added row there free = other_containers tables s _
      (rows_added container_key (λ (other : ContainerRow). other.ns) tables.namespaces row
      tables.containers there free s.containers)

  -- the tables stay sound if a container is removed
  pub container_removed : (key : Key) → AreTables
      (record tables { containers = remove_row container_key key tables.containers })
  container_removed key = other_containers tables s _
      (rows_removed container_key (λ (row : ContainerRow). row.ns) tables.namespaces key
      tables.containers s.containers)

  -- the tables stay sound if a container changes, and keeps its key and its namespace
  pub container_changed : (key : Key) (change : ContainerRow → ContainerRow)
      → ((row : ContainerRow) → container_key (change row) ≡ container_key row)
      → ((row : ContainerRow) → (change row).ns ≡ row.ns)
      → AreTables
      (record tables { containers = change_row container_key key change tables.containers })
  container_changed key change same same_ns =
      other_containers tables s _
      (rows_changed container_key (λ (row : ContainerRow). row.ns) tables.namespaces key change same
      same_ns tables.containers s.containers)

  -- the tables stay sound if content is added whose key is free and whose namespace is there
  pub content_added : (row : ContentRow) → has_namespace tables row.ns ≡ true
      → has_row content_key (content_key row) tables.content ≡ false
      → AreTables (record tables { content = add_row content_key row tables.content })
  content_added row there free = other_content tables s _
      (rows_added content_key (λ (other : ContentRow). other.ns) tables.namespaces row
      tables.content there free s.content)

  -- the tables stay sound if content is removed
  pub content_removed : (key : Key) → AreTables
      (record tables { content = remove_row content_key key tables.content })
  content_removed key =
      other_content tables s _
      (rows_removed content_key (λ (row : ContentRow). row.ns) tables.namespaces key tables.content
      s.content)

  -- the tables stay sound if content changes, and keeps its key and its namespace
  pub content_changed : (key : Key) (change : ContentRow → ContentRow)
      → ((row : ContentRow) → content_key (change row) ≡ content_key row)
      → ((row : ContentRow) → (change row).ns ≡ row.ns)
      → AreTables (record tables { content = change_row content_key key change tables.content })
  content_changed key change same same_ns =
      other_content tables s _
      (rows_changed content_key (λ (row : ContentRow). row.ns) tables.namespaces key change same
      same_ns tables.content s.content)

  -- ---- ingests

  -- the tables stay sound if an ingest is added whose key and number are free, and whose namespace
  -- is there
  pub ingest_added : (row : IngestRow) → has_namespace tables row.ns ≡ true
      → has_row ingest_key (ingest_key row) tables.ingests ≡ false
      → All (λ (other : IngestRow). IsTrue (not (row.number == other.number))) tables.ingests
      → All (λ (snap : SnapRow). IsTrue (not (snap.number == row.number))) tables.snapshots
      → AreTables (record tables { ingests = add_row ingest_key row tables.ingests })
  ingest_added row there free fresh none =
      other_ingests tables s _
      (rows_added ingest_key (λ (other : IngestRow). other.ns) tables.namespaces row tables.ingests
      there free s.ingests)
      (numbered_ingest_added tables.snapshots row tables.ingests fresh none s.numbered)

  -- the tables stay sound if an ingest is removed
  pub ingest_removed : (key : Key) → AreTables
      (record tables { ingests = remove_row ingest_key key tables.ingests })
  ingest_removed key =
      other_ingests tables s _
      (rows_removed ingest_key (λ (row : IngestRow). row.ns) tables.namespaces key tables.ingests
      s.ingests) (numbered_ingest_removed tables.snapshots key tables.ingests s.numbered)

  -- the tables stay sound if an ingest changes, and keeps its key, its namespace and its number
  pub ingest_changed : (key : Key) (change : IngestRow → IngestRow)
      → ((row : IngestRow) → ingest_key (change row) ≡ ingest_key row)
      → ((row : IngestRow) → (change row).ns ≡ row.ns)
      → ((row : IngestRow) → (change row).number ≡ row.number)
      → AreTables (record tables { ingests = change_row ingest_key key change tables.ingests })
  ingest_changed key change same same_ns same_number =
      other_ingests tables s _
      (rows_changed ingest_key (λ (row : IngestRow). row.ns) tables.namespaces key change same
      same_ns
      tables.ingests s.ingests)
      (numbered_ingest_changed tables.snapshots key change same_number tables.ingests s.numbered)
