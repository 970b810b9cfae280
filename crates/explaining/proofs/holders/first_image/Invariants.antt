use Rattle.std.proofs.Common.{◌≡◌, take, map}
use Rattle.std.specs.Prelude.{option_map}
use Rattle.meta_types.specs.Paths.{image}
use Rattle.explaining.specs.ThingRows.{thing_of}
use Rattle.explaining.specs.Firsts.{holder_among}
use Rattle.explaining.proofs.holders.first_image.Given as goal

-- of the rows so far the first that holds the thing
abbrev pub invariant-loop-row : goal.invariant-loop-row
invariant-loop-row l = option_map thing_of l.first ≡ holder_among l.rows.profile l.at.0 (thing_of l.held) (option_map thing_of l.best) (map (λ row. image row.now) (take l.row-index l.rows.images.now))
