use Rattle.std.proofs.Common.{◌∷◌, [], ◌∙◌, ap, map, Bor}
use Rattle.meta_types.specs.Rows.{Records, LeaseRow, lease_key}
use Rattle.gc_graph.specs.Others.{is_other}
use Rattle.gc_graph.proofs.LentRows.{lent_map}
use Rattle.gc_graph.proofs.rows.listed.ListedRows.other_leases.Goals as goal

-- the marks are of the rows that are listed
pub returns-clause-ok : goal.returns-clause-ok
returns-clause-ok c =
    let key = c.args.ns.now ∷ c.args.id.now ∷ [] in
    c.in_ok-others.ensures.ok
    ∙ ap (map (λ (row : Bor LeaseRow). is_other lease_key key row.now)) c.deref.ensures.value
    ∙ lent_map (λ (row : Bor LeaseRow). row.now) (is_other lease_key key) c.self.inside.leases.items
    ∙ ap (λ (r : Records). map (is_other lease_key key) r.leases) c.self.view_is
