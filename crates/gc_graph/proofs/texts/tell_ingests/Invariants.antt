use Rattle.std.proofs.Common.{take}
use Rattle.std.specs.Prelude.{All}
use Rattle.std.specs.List.{flat_map}
use Rattle.meta_types.specs.Text.{IsName}
use Rattle.gc_graph.proofs.texts.tell_ingests.Given as goal

-- the texts of the slices so far are allowed
abbrev pub invariant-loop-rows : goal.invariant-loop-rows
invariant-loop-rows l =
    All (λ row. IsName row.name) (flat_map (λ rows. rows.now) (take l.rows-index l.slices))
