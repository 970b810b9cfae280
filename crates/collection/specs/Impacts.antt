-- Rows by their names, and the records without one. Ours, unless a source stands beside.
use Rattle.std.specs.Prelude.{Bool, true, false, not, [], ◌∷◌, filter}
use Rattle.std.specs.List.{list_any}
use Rattle.meta_types.specs.Text.{Text}
use Rattle.meta_types.specs.Keys.{has_row, remove_row}
use Rattle.meta_types.specs.Rows.{Records, image_key, container_key, lease_key}
use Rattle.meta_types.specs.Rows.{content_key, ingest_key, snap_key}
use Rattle.meta_types.specs.Ops.Snapshots.{is_child_of}
use Rattle.meta_types.specs.declared.object.Object.{Object}
use Rattle.meta_types.specs.declared.object.Object.TheVariants.{Image, Container, Lease, Held}
use Rattle.meta_types.specs.declared.resource.Resource.TheVariants as R
use Rattle.gc_graph.specs.Others.{is_other}
use Rattle.collection.specs.declared.row_name.RowName.{RowName}
use Rattle.collection.specs.declared.row_name.RowName.TheVariants as N

-- the row of a namespace, a kind and a name
abbrev pub row_name : Text → Object → RowName
row_name ns (Image name) = N.Image ns name
row_name ns (Container name) = N.Container ns name
row_name ns (Lease id) = N.Lease ns id
row_name ns (Held (R.Content digest)) = N.Content ns digest
row_name ns (Held (R.Snapshot snapshotter name)) =
    N.Snapshot (record { ns = ns; snapshotter = snapshotter; name = name })
row_name ns (Held (R.Ingest name)) = N.Ingest ns name

-- the row isn't there
abbrev pub lacks_row : Records → RowName → Bool
lacks_row records (N.Image ns name) = not (has_row image_key (ns ∷ name ∷ []) records.tables.images)
lacks_row records (N.Container ns name) =
    not (has_row container_key (ns ∷ name ∷ []) records.tables.containers)
lacks_row records (N.Lease ns id) = not (has_row lease_key (ns ∷ id ∷ []) records.leases)
lacks_row records (N.Content ns digest) =
    not (has_row content_key (ns ∷ digest ∷ []) records.tables.content)
lacks_row records (N.Ingest ns name) =
    not (has_row ingest_key (ns ∷ name ∷ []) records.tables.ingests)
lacks_row records (N.Snapshot key) =
    not (has_row snap_key (key.ns ∷ key.snapshotter ∷ key.name ∷ []) records.tables.snapshots)

-- it is a snapshot that has children, which isn't removed (containerd snapshots service, Remove)
abbrev pub is_parent : Records → RowName → Bool
is_parent records (N.Image ns name) = false
is_parent records (N.Container ns name) = false
is_parent records (N.Lease ns id) = false
is_parent records (N.Content ns digest) = false
is_parent records (N.Ingest ns name) = false
is_parent records (N.Snapshot key) =
    list_any (is_child_of key.ns key.snapshotter key.name) records.tables.snapshots

-- the records without the row
abbrev pub less_row : Records → RowName → Records
less_row records (N.Image ns name) =
    record records {
      tables = record records.tables {
        images = remove_row image_key (ns ∷ name ∷ []) records.tables.images;
      };
    }
less_row records (N.Container ns name) =
    record records {
      tables = record records.tables {
        containers = remove_row container_key (ns ∷ name ∷ []) records.tables.containers;
      };
    }
less_row records (N.Lease ns id) =
    record records { leases = remove_row lease_key (ns ∷ id ∷ []) records.leases }
less_row records (N.Content ns digest) =
    record records {
      tables = record records.tables {
        content = remove_row content_key (ns ∷ digest ∷ []) records.tables.content;
      };
    }
less_row records (N.Ingest ns name) =
    record records {
      tables = record records.tables {
        ingests = remove_row ingest_key (ns ∷ name ∷ []) records.tables.ingests;
      };
    }
less_row records (N.Snapshot key) =
    record records {
      tables = record records.tables {
        snapshots =
            remove_row snap_key (key.ns ∷ key.snapshotter ∷ key.name ∷ []) records.tables.snapshots;
      };
    }

-- it is content, a snapshot or an ingest, whose rows have numbers in the graph
abbrev pub has_number : RowName → Bool
has_number (N.Image ns name) = false
has_number (N.Container ns name) = false
has_number (N.Lease ns id) = false
has_number (N.Content ns digest) = true
has_number (N.Ingest ns name) = true
has_number (N.Snapshot key) = true

-- the records, as they arrived, but the row, where it has no number
abbrev pub listed_less : RowName → Records → Records
listed_less (N.Image ns name) records =
    record records {
      tables = record records.tables {
        images = filter (is_other image_key (ns ∷ name ∷ [])) records.tables.images;
      };
    }
listed_less (N.Container ns name) records =
    record records {
      tables = record records.tables {
        containers = filter (is_other container_key (ns ∷ name ∷ [])) records.tables.containers;
      };
    }
listed_less (N.Lease ns id) records =
    record records { leases = filter (is_other lease_key (ns ∷ id ∷ [])) records.leases }
listed_less (N.Content ns digest) records = records
listed_less (N.Ingest ns name) records = records
listed_less (N.Snapshot key) records = records
