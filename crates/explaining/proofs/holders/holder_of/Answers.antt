use Rattle.std.proofs.Common.{◌∙◌, ap, map, Option, None, Bor}
use Rattle.meta_types.specs.Rows.{LeaseRow}
use Rattle.meta_types.specs.Paths.{Thing, container, lease}
use Rattle.meta_types.specs.Explanations.{goes_before}
use Rattle.meta_types.specs.declared.rows.ContainerRow.{ContainerRow}
use Rattle.explaining.specs.ThingRows.{thing_of}
use Rattle.explaining.specs.Firsts.{chosen, is_holder, holder_among}
use Rattle.explaining.proofs.Folds.{three_folded}
use Rattle.explaining.proofs.holders.holder_of.Goals as goal

-- images, then containers, then leases
pub returns-clause-ok : goal.returns-clause-ok
returns-clause-ok c =
    let rows = c.args.rows.now in
    let held : Thing = thing_of c.args.held in
    c.in_ok-all.ensures.ok
    ∙ ap (λ (o : Option Thing). holder_among rows.profile c.args.at.0 held o (map (λ (row : Bor LeaseRow). lease row.now) rows.leases.now))
    (c.in_ok-both.ensures.ok ∙ ap (λ (o : Option Thing). holder_among rows.profile c.args.at.0 held o (map (λ (row : Bor ContainerRow). container row.now) rows.containers.now)) c.in_ok-images.ensures.ok)
    ∙ three_folded (λ (so_far : Option Thing) (thing : Thing). chosen goes_before (is_holder rows.profile c.args.at.0 held thing) thing so_far) None rows
