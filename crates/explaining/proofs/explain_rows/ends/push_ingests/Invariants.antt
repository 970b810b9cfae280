use Rattle.std.proofs.Common.{◌≡◌, ◌++◌, take}
use Rattle.std.specs.List.{flat_map}
use Rattle.meta_types.specs.Paths.{ingest}
use Rattle.explaining.specs.LastPaths.{past_end}
use Rattle.explaining.proofs.explain_rows.ends.push_ingests.Given as goal

-- the ends of the slices so far are there
abbrev pub invariant-loop-slice : goal.invariant-loop-slice
invariant-loop-slice l =
    l.ends.items ≡ l.fn.ends.items
    ++ flat_map (λ row. past_end l.profile l.at.0 (ingest row))
    (flat_map (λ s. s.now) (take l.slice-index l.slices))
