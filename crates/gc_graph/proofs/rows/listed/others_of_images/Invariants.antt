use Rattle.std.proofs.Common.{◌≡◌, ◌∷◌, [], map, take}
use Rattle.meta_types.specs.Rows.{image_key}
use Rattle.gc_graph.specs.Others.{is_other}
use Rattle.gc_graph.proofs.rows.listed.others_of_images.Given as goal

-- the marks say of each image so far whether it is another
abbrev pub invariant-loop-row : goal.invariant-loop-row
invariant-loop-row l =
    l.others.items ≡ map (λ row. is_other image_key (l.ns ∷ l.name ∷ []) row.now)
    (take l.row-index l.rows)
