use Rattle.std.proofs.Common.{◌≡◌, ◌∷◌, [], ◌∙◌, ap, map, filter, rules, Bor, List}
use Rattle.std.proofs.lemmas.Fn.{filter_same}
use Rattle.meta_types.specs.Rows.{Records, LeaseRow, container_key}
use Rattle.meta_types.specs.declared.rows.ContainerRow.{ContainerRow}
use Rattle.meta_types.specs.declared.rows.ImageRow.{ImageRow}
use Rattle.gc_graph.specs.Others.{is_other}
use Rattle.gc_graph.proofs.LentRows.{lent_filter}
use Rattle.gc_graph.proofs.rows.listed.ListedRows.leave_container.Goals as goal

-- the kept part of the list are the rows that pass the test
pub returns : goal.returns
returns c =
    let key = c.args.ns.now ∷ c.args.name.now ∷ [] in
    let inside = c.self.inside in
    let rows : List ContainerRow =
    map (λ (row : Bor ContainerRow). row.now) inside.containers.items in
    let left : map (λ (row : Bor ContainerRow). row.now) c.retain.new.self.items
    ≡ filter (is_other container_key key) rows =
    ap (map (λ (row : Bor ContainerRow). row.now))
    (filter_same _ (λ (row : Bor ContainerRow). is_other container_key key row.now) _
    (λ x b f' k. search rules) _ _ c.retain.ensures.filtered)
    ∙ lent_filter (λ (row : Bor ContainerRow). row.now) (is_other container_key key)
    inside.containers.items in
    (λ i. record {
      tables = record {
        namespaces = [];
        images = map (λ (row : Bor ImageRow). row.now) inside.images.items;
        containers = left i;
        content = inside.content;
        ingests = inside.ingests;
        snapshots = inside.snapshots;
      };
      leases = map (λ (row : Bor LeaseRow). row.now) inside.leases.items;
      next = 1;
      profile = inside.profile;
    }) ∙ ap (λ (r : Records). record r {
      tables = record r.tables {
        containers = filter (is_other container_key key) r.tables.containers;
      };
    }) c.self.view_is
