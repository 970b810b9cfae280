use Rattle.std.proofs.Common.{◌≡◌, None, take, map, option_copied}
use Rattle.std.specs.List.{last_or}
use Rattle.object_tables.proofs.Snapshotters.{snapshotters_of}
use Rattle.object_tables.proofs.snap_lists.snapshotters_of.Given as goal

-- the snapshotters of the rows so far, and the last of them
abbrev pub invariant-loop-row : goal.invariant-loop-row
invariant-loop-row l = record {
  names : l.names ≡ snapshotters_of (map (λ row. row.now) (take l.row-index l.rows));
  last : option_copied l.last ≡ last_or None l.names;
}
