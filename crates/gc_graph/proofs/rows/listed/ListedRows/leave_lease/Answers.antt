use Rattle.std.proofs.Common.{◌≡◌, ◌∷◌, [], ◌∙◌, ap, map, filter, rules, Bor, List}
use Rattle.std.proofs.lemmas.Fn.{filter_same}
use Rattle.meta_types.specs.Rows.{Records, LeaseRow, lease_key}
use Rattle.meta_types.specs.declared.rows.ContainerRow.{ContainerRow}
use Rattle.meta_types.specs.declared.rows.ImageRow.{ImageRow}
use Rattle.gc_graph.specs.Others.{is_other}
use Rattle.gc_graph.proofs.LentRows.{lent_filter}
use Rattle.gc_graph.proofs.rows.listed.ListedRows.leave_lease.Goals as goal

-- the kept part of the list are the rows that pass the test
pub returns : goal.returns
returns c =
    let key = c.args.ns.now ∷ c.args.id.now ∷ [] in
    let inside = c.self.inside in
    let rows : List LeaseRow = map (λ (row : Bor LeaseRow). row.now) inside.leases.items in
    let left : map (λ (row : Bor LeaseRow). row.now) c.retain.new.self.items
    ≡ filter (is_other lease_key key) rows =
    ap (map (λ (row : Bor LeaseRow). row.now))
    (filter_same _ (λ (row : Bor LeaseRow). is_other lease_key key row.now) _
    (λ x b f' k. search rules) _ _ c.retain.ensures.filtered)
    ∙ lent_filter (λ (row : Bor LeaseRow). row.now) (is_other lease_key key)
    inside.leases.items in
    (λ i. record {
      tables = record {
        namespaces = [];
        images = map (λ (row : Bor ImageRow). row.now) inside.images.items;
        containers = map (λ (row : Bor ContainerRow). row.now) inside.containers.items;
        content = inside.content;
        ingests = inside.ingests;
        snapshots = inside.snapshots;
      };
      leases = left i;
      next = 1;
      profile = inside.profile;
    }) ∙ ap (λ (r : Records). record r { leases = filter (is_other lease_key key) r.leases })
    c.self.view_is
