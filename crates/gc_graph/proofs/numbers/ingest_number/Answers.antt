use Rattle.std.proofs.Common.{Some, None, sym, ◌∙◌}
use Rattle.gc_graph.proofs.NumberPlaces.{ingest_found}
use Rattle.gc_graph.proofs.numbers.ingest_number.Goals as goal

-- the first ingest's number is 0
pub returns-in-Some : goal.returns-in-Some
returns-in-Some c = ingest_found c.args.rows.now c.requires.lent c.args.ns.now c.args.name.now (Some c.in-Some.place) (sym c.in-Some.is ∙ c.place.ensures)

pub returns-in-None : goal.returns-in-None
returns-in-None c = ingest_found c.args.rows.now c.requires.lent c.args.ns.now c.args.name.now None (sym c.in-None.is ∙ c.place.ensures)
