use Rattle.std.proofs.Common.{List, ℕ, Bor}
use Rattle.std.specs.List.{flat_map}
use Rattle.meta_types.specs.Rows.{LeaseRow}
use Rattle.meta_types.specs.Paths.{image, container, lease}
use Rattle.meta_types.specs.declared.rows.ImageRow.{ImageRow}
use Rattle.meta_types.specs.declared.rows.ContainerRow.{ContainerRow}
use Rattle.gc_graph.specs.Built.{root_targets, targets_in}
use Rattle.gc_graph.proofs.AnyOrder.{three_kinds}
use Rattle.gc_graph.proofs.build_graph.held_of.Goals as goal

-- what leases hold comes behind what images and containers reference
pub returns-clause-ok : goal.returns-clause-ok
returns-clause-ok c =
    let rows = c.args.rows.now in
    let book = c.args.book.now in
    let at = c.args.at.0 in
    let of_image : Bor ImageRow → List ℕ = λ row. root_targets rows.profile at book (image row.now) in
    let of_container : Bor ContainerRow → List ℕ = λ row. targets_in book (container row.now) in
    let of_lease : Bor LeaseRow → List ℕ = λ row. root_targets rows.profile at book (lease row.now) in
    three_kinds c.new-roots.result.items (flat_map of_image rows.images.now)
    (flat_map of_container rows.containers.now) (flat_map of_lease rows.leases.now)
    c.push_images.new.roots.items c.push_containers.new.roots.items c.push_leases.new.roots.items
    c.new-roots.ensures.items c.in_ok-push_images.ensures.ok c.in_ok-push_containers.ensures.ok
    c.in_ok-push_leases.ensures.ok
