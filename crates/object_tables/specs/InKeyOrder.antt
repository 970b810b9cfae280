-- The tables as they arrived, and in the order of their keys. Ours.
use Rattle.meta_types.specs.Rows.{Tables, image_key, container_key, content_key, ingest_key, snap_key}
use Rattle.row_tables.specs.Arrived.{sorted}

-- the same tables, with the rows of each kind in the order of their keys
abbrev pub in_key_order : Tables → Tables
in_key_order tables = record {
  namespaces = tables.namespaces;
  images = sorted image_key tables.images;
  containers = sorted container_key tables.containers;
  content = sorted content_key tables.content;
  ingests = sorted ingest_key tables.ingests;
  snapshots = sorted snap_key tables.snapshots;
}
