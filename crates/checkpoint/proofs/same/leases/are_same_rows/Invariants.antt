use Rattle.std.proofs.Common.{◌≡◌, map, take}
use Rattle.checkpoint.proofs.same.leases.are_same_rows.Given as goal

-- the leases so far are the same
abbrev pub invariant-loop-place : goal.invariant-loop-place
invariant-loop-place l =
    take l.place (map (λ row. row.now) l.leases) ≡ take l.place (map (λ row. row.now) l.others)
