use Rattle.std.proofs.Common.{length}
use Rattle.journal.proofs.Blocks.{Takes}
use Rattle.journal.proofs.reader.Reader.read.Given as goal

abbrev pub invariant-loop-line : goal.invariant-loop-line
invariant-loop-line l = Takes l.fn.self l.self l.block l.rest

abbrev pub decreases-loop-line : goal.decreases-loop-line
decreases-loop-line l = length l.rest
