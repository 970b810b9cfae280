use Rattle.std.proofs.Common.{sym}
use Rattle.gc_graph.specs.Stored.{records_of}
use Rattle.gc_graph.proofs.NumberPlaces.{no_flat_ingest}
use Rattle.gc_graph.proofs.numbers.flat_ingest_number.Goals as goal

pub returns : goal.returns
returns c = sym (no_flat_ingest (records_of c.args.rows.now) c.args.ns.now c.args.name.now)
