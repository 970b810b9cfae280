use Rattle.std.proofs.Common.{◌≡◌, ◌++◌, take}
use Rattle.std.specs.List.{flat_map}
use Rattle.gc_graph.proofs.parallel.join_flat.Given as goal

-- the lists of the parts so far are there
abbrev pub invariant-loop-part : goal.invariant-loop-part
invariant-loop-part l = l.edges
    ≡ l.fn.edges ++ flat_map (λ part. part.1) (take l.part-index l.parts)
