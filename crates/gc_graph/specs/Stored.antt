-- The records that borrowed rows are. Ours, unless a source stands beside.
use Rattle.std.specs.Prelude.{[], map, length, ◌≡◌, ◌+◌, ◌*◌, ◌≤◌}
use Rattle.meta_types.specs.Rows.{Records}
use Rattle.gc_graph.specs.declared.rows.StoreRows.{StoreRows}
use Rattle.gc_graph.specs.Nodes.{AreAllowed}
use Rattle.gc_graph.specs.Targets.{nodes_of}

-- the namespaces and the next backend number lead no path anywhere, and are left out
abbrev pub records_of : StoreRows → Records
records_of rows = record {
  tables = record {
    namespaces = [];
    images = map (λ row. row.now) rows.images.now;
    containers = map (λ row. row.now) rows.containers.now;
    content = rows.content.now;
    ingests = rows.ingests.now;
    snapshots = rows.snapshots.now;
  };
  leases = map (λ row. row.now) rows.leases.now;
  next = 1;
  profile = rows.profile;
}

-- the nodes are at most 16,777,216
abbrev pub IsSmall : StoreRows → Type 0
IsSmall rows = 2 * (length rows.content.now + length rows.snapshots.now) + length rows.ingests.now ≤ 16777216

-- the places that are lent are those of the rows of the slices
pub record AreLent (rows : StoreRows) : Type 0 where
  pub ingests : rows.places.ingests.now ≡ rows.ingests.now
  pub content : rows.places.content.now ≡ rows.content.now
  pub snapshots : rows.places.snapshots.now ≡ rows.snapshots.now

-- the rows can be numbered by their places
pub record HaveNumbers (rows : StoreRows) : Type 0 where
  pub small : IsSmall rows
  pub lent : AreLent rows
  pub allowed : AreAllowed (nodes_of (records_of rows))
