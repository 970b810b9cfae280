use Rattle.std.proofs.Common.{◌≡◌, map, take}
use Rattle.table_sweep.proofs.names.content_as_listed.Given as goal

-- the names so far are there
abbrev pub invariant-loop-one : goal.invariant-loop-one
invariant-loop-one l = l.names.items ≡ map (λ one. (one.row.now.ns, one.row.now.digest))
    (take l.one-index l.near)
