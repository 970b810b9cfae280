use Rattle.std.proofs.Common.{take}
use Rattle.std.specs.Prelude.{All}
use Rattle.meta_types.specs.Text.{IsName}
use Rattle.gc_graph.proofs.texts.tell_some_snapshots.Given as goal

-- the texts of the rows so far are allowed
abbrev pub invariant-loop-row : goal.invariant-loop-row
invariant-loop-row l = All (λ row. IsName row.key.name) (take l.row-index l.rows)
