use Rattle.std.proofs.Common.{◌∷◌, [], ◌∙◌, ap, map, Bor}
use Rattle.meta_types.specs.Rows.{Records, image_key}
use Rattle.meta_types.specs.declared.rows.ImageRow.{ImageRow}
use Rattle.gc_graph.specs.Others.{is_other}
use Rattle.gc_graph.proofs.LentRows.{lent_map}
use Rattle.gc_graph.proofs.rows.listed.ListedRows.other_images.Goals as goal

-- the marks are of the rows that are listed
pub returns-clause-ok : goal.returns-clause-ok
returns-clause-ok c =
    let key = c.args.ns.now ∷ c.args.name.now ∷ [] in
    c.in_ok-others.ensures.ok
    ∙ ap (map (λ (row : Bor ImageRow). is_other image_key key row.now)) c.deref.ensures.value
    ∙ lent_map (λ (row : Bor ImageRow). row.now) (is_other image_key key) c.self.inside.images.items
    ∙ ap (λ (r : Records). map (is_other image_key key) r.tables.images) c.self.view_is
