-- Records as they arrived, and in the order of their keys. Ours.
use Rattle.std.specs.Prelude.{[], ◌∷◌}
use Rattle.std.specs.Ordering.{ordering_then}
use Rattle.std.specs.declared.cmp.Ordering.{Ordering}
use Rattle.meta_types.specs.Text.{Text, text_cmp}
use Rattle.meta_types.specs.Keys.{Key}
use Rattle.meta_types.specs.Rows.{Records, lease_key}
use Rattle.meta_types.specs.Reports.{Removed}
use Rattle.row_tables.specs.Arrived.{sorted}
use Rattle.object_tables.specs.InKeyOrder.{in_key_order}

-- the same records, with the rows of each kind in the order of their keys
abbrev pub records_in_key_order : Records → Records
records_in_key_order records = record {
  tables = in_key_order records.tables;
  leases = sorted lease_key records.leases;
  next = records.next;
  profile = records.profile;
}

-- a name in a namespace is a key as it stands
abbrev pub name_key : Text × Text → Key
name_key name = name.0 ∷ name.1 ∷ []

-- so is that of a snapshot, with its namespace and its snapshotter
abbrev pub snapshot_name_key : Text × Text × Text → Key
snapshot_name_key name = name.0 ∷ name.1 ∷ name.2 ∷ []

-- names are compared text by text
abbrev pub name_cmp : Text × Text → Text × Text → Ordering
name_cmp a b = ordering_then (text_cmp a.0 b.0) (text_cmp a.1 b.1)

abbrev pub snapshot_name_cmp : Text × Text × Text → Text × Text × Text → Ordering
snapshot_name_cmp a b = ordering_then (ordering_then (text_cmp a.0 b.0) (text_cmp a.1 b.1)) (text_cmp a.2 b.2)

-- the same names, each kind in the order of its keys
abbrev pub names_in_key_order : Removed → Removed
names_in_key_order removed = record {
  content = sorted name_key removed.content;
  images = sorted name_key removed.images;
  ingests = sorted name_key removed.ingests;
  leases = sorted name_key removed.leases;
  snapshots = sorted snapshot_name_key removed.snapshots;
}
