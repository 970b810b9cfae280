use Rattle.std.proofs.Common.{◌≡◌, ◌<◌, length}
use Rattle.std.specs.Prelude.{IfSome}
use Rattle.gc_graph.specs.Stored.{records_of}
use Rattle.explaining.specs.Ends.{nearest_below}
use Rattle.explaining.specs.Questions.{asked_by}
use Rattle.explaining.proofs.nearest.nearest.Given as goal

-- of the numbers so far the nearest
abbrev pub invariant-loop-number : goal.invariant-loop-number
invariant-loop-number l = record {
  nearest : l.best ≡ nearest_below (records_of l.rows) (asked_by l.question) l.depths l.number;
  range : IfSome l.best (λ b. b < length l.depths);
}
