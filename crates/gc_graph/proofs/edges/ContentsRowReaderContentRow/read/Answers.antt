use Rattle.std.proofs.Common.{◌++◌, ◌∙◌, [], length, ap, refl}
use Rattle.std.proofs.lemmas.Simd.{splat_is_map}
use Rattle.gc_graph.proofs.edges.ContentsRowReaderContentRow.read.Goals as goal

-- each row has an empty list in flat
pub returns-clause-flat : goal.returns-clause-flat
returns-clause-flat c =
    c.in_ok-push_empty.ensures.ok
    ∙ ap (λ lists. c.args.flat.now ++ lists)
    (splat_is_map c.args.rows.now (length c.args.rows.now) [] refl)
