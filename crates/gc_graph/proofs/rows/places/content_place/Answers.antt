use Rattle.std.proofs.Common.{sym, ◌∙◌}
use Rattle.gc_graph.proofs.NearPlaces.{content_there}
use Rattle.gc_graph.proofs.rows.places.content_place.Goals as goal

-- no key stands twice
pub returns-then-is_content_at : goal.returns-then-is_content_at
returns-then-is_content_at c =
    let rows = c.args.rows.now in
    content_there c.args.ns.now c.args.digest.now rows.content.now rows.places.content.now
    c.args.near c.requires.content c.len-count.ensures.distinct
    (sym c.is_content_at.ensures ∙ c.if-is_content_at.true)
