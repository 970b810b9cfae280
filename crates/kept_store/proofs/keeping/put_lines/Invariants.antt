use Rattle.std.proofs.Common.{length}
use Rattle.kept_store.proofs.keeping.put_lines.Given as goal

-- each line read leaves fewer bytes
abbrev pub decreases-putting : goal.decreases-putting
decreases-putting g l = length l.rest
