use Rattle.std.proofs.Common.{take}
use Rattle.std.specs.Prelude.{All}
use Rattle.meta_types.specs.Text.{IsDigest}
use Rattle.gc_graph.proofs.texts.tell_some_content.Given as goal

-- the texts of the rows so far are allowed
abbrev pub invariant-loop-row : goal.invariant-loop-row
invariant-loop-row l = All (λ row. IsDigest row.digest) (take l.row-index l.rows)
