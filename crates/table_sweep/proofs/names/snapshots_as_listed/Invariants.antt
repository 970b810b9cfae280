use Rattle.std.proofs.Common.{◌≡◌, map, take}
use Rattle.table_sweep.proofs.names.snapshots_as_listed.Given as goal

-- the names so far are there
abbrev pub invariant-loop-one : goal.invariant-loop-one
invariant-loop-one l = l.names.items ≡ map (λ one. (
  one.row.now.key.ns,
  one.row.now.key.snapshotter,
  one.row.now.key.name,
)) (take l.one-index l.near)
