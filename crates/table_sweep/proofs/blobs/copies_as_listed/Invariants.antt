use Rattle.std.proofs.Common.{◌≡◌, map, take}
use Rattle.table_sweep.proofs.blobs.copies_as_listed.Given as goal

-- the digests so far are there
abbrev pub invariant-loop-one : goal.invariant-loop-one
invariant-loop-one l = l.copies.items ≡ map (λ one. one.row.now) (take l.one-index l.near)
