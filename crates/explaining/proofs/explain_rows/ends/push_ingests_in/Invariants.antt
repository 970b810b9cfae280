use Rattle.std.proofs.Common.{◌≡◌, ◌++◌, take}
use Rattle.std.specs.List.{flat_map}
use Rattle.meta_types.specs.Paths.{ingest}
use Rattle.explaining.specs.LastPaths.{past_end}
use Rattle.explaining.proofs.explain_rows.ends.push_ingests_in.Given as goal

-- the ends of the rows so far are there
abbrev pub invariant-loop-row : goal.invariant-loop-row
invariant-loop-row l =
    l.ends.items ≡ l.fn.ends.items
    ++ flat_map (λ row. past_end l.profile l.at.0 (ingest row)) (take l.row-index l.rows)
