use Rattle.std.proofs.Common.{◌≡◌, take, map}
use Rattle.object_tables.proofs.stored.names_of.Given as goal

-- the rows so far are listed
abbrev pub invariant-loop-row : goal.invariant-loop-row
invariant-loop-row g l = l.names ≡ map g.R.ListedRow.listed_as (map (λ row. row.now) (take l.row-index l.rows))
