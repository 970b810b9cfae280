use Rattle.std.proofs.Common.{◌≡◌, length, take, map}
use Rattle.backend_sweep.specs.declared.outcomes.Outcome.TheVariants as F
use Rattle.backend_sweep.proofs.blobs.set_removed.Given as goal

-- the names so far went
abbrev pub invariant-loop-i : goal.invariant-loop-i
invariant-loop-i l = record {
  set : take l.i l.outcomes ≡ map (λ name. F.Removed) (take l.i l.names);
  same : length l.outcomes ≡ length l.names;
}
