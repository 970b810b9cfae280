use Rattle.std.proofs.Common.{◌≡◌, map, take}
use Rattle.lease_book.proofs.ids.ids_of.Given as goal

-- the ids of the rows so far are there
abbrev pub invariant-loop-row : goal.invariant-loop-row
invariant-loop-row l = l.ids.items ≡ map (λ row. row.id) (map (λ row. row.now) (take l.row-index l.rows))
