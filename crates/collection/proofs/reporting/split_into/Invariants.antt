use Rattle.std.proofs.Common.{◌≤◌, length, vec_capacity}
use Rattle.collection.proofs.Splitting.{AreSplit}
use Rattle.collection.proofs.reporting.split_into.Given as goal

-- the names so far are split, and each list has room for all
abbrev pub invariant-loop-name : goal.invariant-loop-name
invariant-loop-name g l =
    let names = l.fn.names.items in
    (goal.iterator-loop-name g).can_next l.name-iterator ×
    (goal.iterator-loop-name g).is_finite l.name-iterator × record {
      split_objects : AreSplit names l.yielded l.name-iterator.rest.items l.fn.outcomes l.i
          l.removed.items l.failed.items;
      gone_room : length names ≤ vec_capacity l.removed;
      lost_room : length names ≤ vec_capacity l.failed;
    }
