use Rattle.std.proofs.Common.{◌≡◌, take, map}
use Rattle.std.specs.Prelude.{option_map}
use Rattle.meta_types.specs.Paths.{lease}
use Rattle.explaining.specs.ThingRows.{thing_of}
use Rattle.explaining.specs.Ends.{root_among}
use Rattle.explaining.specs.Questions.{asked_by}
use Rattle.explaining.proofs.roots.lease_among.Given as goal

-- of the rows so far the first that is asked for and stays
abbrev pub invariant-loop-row : goal.invariant-loop-row
invariant-loop-row l = option_map thing_of l.first ≡ root_among l.fn.rows.profile l.at.0 (asked_by l.question) (option_map thing_of l.best) (map (λ row. lease row.now) (take l.row-index l.fn.rows.leases.now))
