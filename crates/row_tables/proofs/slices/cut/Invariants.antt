use Rattle.std.proofs.Common.{take}
use Rattle.row_tables.specs.Slices.{AreCut}
use Rattle.row_tables.proofs.slices.cut.Given as goal

-- the slices so far are cut
abbrev pub invariant-loop-rows : goal.invariant-loop-rows
invariant-loop-rows g l =
    AreCut (λ rows. rows.now) (take l.rows-index l.slices) l.starts.items l.count
