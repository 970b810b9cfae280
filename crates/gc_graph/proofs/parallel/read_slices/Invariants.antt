use Rattle.std.proofs.Common.{◌≡◌, ◌++◌, map, take}
use Rattle.std.specs.List.{flat_map}
use Rattle.gc_graph.proofs.parallel.read_slices.Given as goal

-- the rows of the slices so far are there, in full and in flat
abbrev pub invariant-loop-rows : goal.invariant-loop-rows
invariant-loop-rows g l =
    (l.full ≡ l.fn.full ++ map (g.R.RowReader.full_of l.reading.reader.now)
    (flat_map (λ rows. rows.now) (take l.rows-index l.slices)))
    × (l.flat ≡ l.fn.flat ++ map (g.R.RowReader.flat_of l.reading.reader.now)
    (flat_map (λ rows. rows.now) (take l.rows-index l.slices)))
