use Rattle.request_core.proofs.Undone.{ingests_again}
use Rattle.request_core.proofs.add.ingest.grow_ingest.Goals as goal

-- the row is taken out again
pub returns-clause-err : goal.returns-clause-err
returns-clause-err g c = (
  ingests_again _ _ _ _ c.in_ok-add_ingest.ensures.ok
      (rw (c.in_ok-ns.ensures.ok, c.in_ok-name.ensures.ok) at c.remove_ingest.ensures.left)
      c.requires.free,
  c.in-Err.ensures.err.0,
  c.in-Err.ensures.err.1,
)

-- the row's number is above all others
pub add_ingest-requires : goal.add_ingest-requires
add_ingest-requires g c = record { numbered = c.requires.numbered }
