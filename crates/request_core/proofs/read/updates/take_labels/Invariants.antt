use Rattle.std.proofs.Common.{◌≡◌, ◌≤◌, length, drop}
use Rattle.meta_types.specs.Updates.{less_labels}
use Rattle.request_core.proofs.read.updates.take_labels.Given as goal

-- the labels of the pairs from here on are taken away
abbrev pub invariant-loop-place : goal.invariant-loop-place
invariant-loop-place l = record {
  within : l.place ≤ length l.pairs;
  less : l.labels ≡ less_labels (drop l.place l.pairs) l.initial.labels;
}

abbrev pub decreases-loop-place : goal.decreases-loop-place
decreases-loop-place l = l.place
