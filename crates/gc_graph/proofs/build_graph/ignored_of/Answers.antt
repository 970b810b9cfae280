use Rattle.std.proofs.Common.{◌∙◌, Bor}
use Rattle.std.specs.Prelude.{◌&&◌}
use Rattle.meta_types.specs.Rows.{LeaseRow}
use Rattle.meta_types.specs.CollectorLabels.{is_unreadable}
use Rattle.meta_types.specs.Paths.{images_expire}
use Rattle.meta_types.specs.declared.rows.ImageRow.{ImageRow}
use Rattle.gc_graph.proofs.RootPlaces.{held_names_of}
use Rattle.gc_graph.proofs.build_graph.ignored_of.Goals as goal

pub returns-clause-leases : goal.returns-clause-leases
returns-clause-leases c = c.in_ok-ignored.ensures.ok
    ∙ held_names_of (λ (row : Bor LeaseRow). row.now) (λ (row : LeaseRow). is_unreadable row.labels) (λ row. (row.ns, row.id)) c.args.rows.now.leases.now

pub returns-clause-images : goal.returns-clause-images
returns-clause-images c = c.in_ok-ignored_images.ensures.ok
    ∙ held_names_of (λ (row : Bor ImageRow). row.now) (λ (row : ImageRow). images_expire c.args.rows.now.profile && is_unreadable row.labels) (λ row. (row.ns, row.name)) c.args.rows.now.images.now
