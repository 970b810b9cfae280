use Rattle.std.proofs.Common.{◌∙◌, ap, map, Option, None, Bor}
use Rattle.meta_types.specs.Rows.{LeaseRow}
use Rattle.meta_types.specs.Paths.{Thing, container, lease}
use Rattle.meta_types.specs.Explanations.{goes_before}
use Rattle.meta_types.specs.declared.rows.ContainerRow.{ContainerRow}
use Rattle.explaining.specs.Firsts.{chosen}
use Rattle.explaining.specs.Ends.{is_asked_root, root_among}
use Rattle.explaining.specs.Questions.{asked_by}
use Rattle.explaining.proofs.Folds.{three_folded}
use Rattle.explaining.proofs.roots.first_root.Goals as goal

-- images, then containers, then leases
pub returns : goal.returns
returns c =
    let rows = c.args.rows.now in
    let asked = asked_by c.args.question in
    c.lease_among.ensures
    ∙ ap (λ (o : Option Thing). root_among rows.profile c.args.at.0 asked o (map (λ (row : Bor LeaseRow). lease row.now) rows.leases.now))
    (c.container_among-first.ensures ∙ ap (λ (o : Option Thing). root_among rows.profile c.args.at.0 asked o (map (λ (row : Bor ContainerRow). container row.now) rows.containers.now)) c.image_among-first.ensures)
    ∙ three_folded (λ (so_far : Option Thing) (thing : Thing). chosen goes_before (is_asked_root rows.profile c.args.at.0 asked thing) thing so_far) None rows
