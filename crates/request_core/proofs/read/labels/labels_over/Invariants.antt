use Rattle.std.proofs.Common.{◌≡◌, ◌≤◌, length, drop, true}
use Rattle.meta_types.specs.Updates.{put_pairs, takes_pairs}
use Rattle.request_core.proofs.read.labels.labels_over.Given as goal

abbrev pub invariant-loop-place : goal.invariant-loop-place
invariant-loop-place l = record {
  within : l.place ≤ length l.pairs;
  allowed : takes_pairs (drop l.place l.pairs) l.initial.labels ≡ true;
  put : l.labels ≡ put_pairs (drop l.place l.pairs) l.initial.labels;
}

abbrev pub decreases-loop-place : goal.decreases-loop-place
decreases-loop-place l = l.place
