-- Things by their rows, and by their numbers. Ours, unless a source stands beside.
use Rattle.std.specs.Prelude.{ℕ, List, [], slice_index_or, None}
use Rattle.meta_types.specs.Rows.{Records}
use Rattle.meta_types.specs.Paths.{Thing, image, container, lease, ingest, content, snapshot}
use Rattle.gc_graph.specs.Targets.{node_things}
use Rattle.explaining.specs.declared.thing_row.ThingRow.{ThingRow}
use Rattle.explaining.specs.declared.thing_row.ThingRow.TheVariants as F

-- the thing of a borrowed row
abbrev pub thing_of : ThingRow → Thing
thing_of (F.Image row) = image row.now
thing_of (F.Container row) = container row.now
thing_of (F.Lease row) = lease row.now
thing_of (F.Ingest row) = ingest row.now
thing_of (F.Content mode row) = content mode row.now
thing_of (F.Snapshot mode row) = snapshot mode row.now

-- the things that have numbers, in the order of these
abbrev pub numbered : Records → List Thing
numbered records = node_things records

-- a thing that no store has
abbrev pub no_thing : Thing
no_thing =
    ingest (record { ns = []; name = []; expected = None; expires = None; number = 0; extra = [] })

-- the thing of a number
abbrev pub thing_at : Records → ℕ → Thing
thing_at records number = slice_index_or (numbered records) number no_thing
