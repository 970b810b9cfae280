-- Each part has fewer moments.
use Rattle.std.proofs.Common.{length}
use Rattle.explaining.proofs.explain_rows.+last_path.Given as goal

abbrev pub decreases-last_path : goal.decreases-last_path
decreases-last_path l = length l.ends.now
