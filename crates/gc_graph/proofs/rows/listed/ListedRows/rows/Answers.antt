use Rattle.gc_graph.proofs.RowsApart.{apart_from}
use Rattle.gc_graph.proofs.rows.listed.ListedRows.rows.Goals as goal

-- no key stands twice in the places, whose rows are lent
pub returns-clause-apart : goal.returns-clause-apart
returns-clause-apart c =
    let inside = c.self.inside in
    apart_from _ inside.ingest_places inside.content_places inside.snapshot_places
    c.self.invariant.ingests c.self.invariant.content c.self.invariant.snapshots
    c.len.ensures.distinct c.len-2.ensures.distinct c.len-3.ensures.distinct
