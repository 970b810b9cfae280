use Rattle.std.proofs.Common.{◌≡◌, [], length}
use Rattle.std.specs.Prelude.{All}
use Rattle.steal_mark.proofs.start.passes.new_rows.Given as goal

-- the counted rows are made, all empty
abbrev pub invariant-loop-count : goal.invariant-loop-count
invariant-loop-count l = (length l.rows.items ≡ l.count) × All (λ row. row.items ≡ []) l.rows.items
