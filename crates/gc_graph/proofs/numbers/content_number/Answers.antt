use Rattle.std.proofs.Common.{Some, None, sym, ◌∙◌}
use Rattle.gc_graph.proofs.NumberPlaces.{content_found}
use Rattle.gc_graph.proofs.numbers.content_number.Goals as goal

-- the place of the row stands behind the first number
pub returns-in-Some : goal.returns-in-Some
returns-in-Some c = content_found c.args.rows.now c.requires.lent c.args.ns.now c.args.mode c.args.digest.now c.first_content-first.result (Some c.in-Some.place) c.first_content-first.ensures (sym c.in-Some.is ∙ c.content_place.ensures)

pub returns-in-None : goal.returns-in-None
returns-in-None c = content_found c.args.rows.now c.requires.lent c.args.ns.now c.args.mode c.args.digest.now c.first_content-first.result None c.first_content-first.ensures (sym c.in-None.is ∙ c.content_place.ensures)
