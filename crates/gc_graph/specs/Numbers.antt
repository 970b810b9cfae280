-- The first number of each kind and mode. Ours, unless a source stands beside.
use Rattle.std.specs.Prelude.{ℕ, ◌+◌, ◌*◌, length}
use Rattle.meta_types.specs.Rows.{Records}
use Rattle.meta_types.specs.declared.resource.Mode.{Mode}
use Rattle.meta_types.specs.declared.resource.Mode.TheVariants.{Full, Flat}

-- content's numbers begin behind those of ingests
abbrev pub first_content : Mode → Records → ℕ
first_content Full records = length records.tables.ingests
first_content Flat records = length records.tables.ingests + length records.tables.content

-- those of snapshots behind content in both modes
abbrev pub first_snapshot : Mode → Records → ℕ
first_snapshot Full records = length records.tables.ingests + 2 * length records.tables.content
first_snapshot Flat records = length records.tables.ingests + 2 * length records.tables.content + length records.tables.snapshots
