use Rattle.std.proofs.Common.{◌≡◌, ◌++◌, ◌+◌, take}
use Rattle.meta_types.specs.Paths.{ingest_holds_itself}
use Rattle.gc_graph.specs.Built.{places}
use Rattle.gc_graph.proofs.roots.push_some_own_ingests.Given as goal

-- the places so far are there, and the next number is known
abbrev pub invariant-loop-row : goal.invariant-loop-row
invariant-loop-row l = record {
  number : l.number ≡ l.base + l.row-index;
  roots : l.roots.items ≡ l.fn.roots.items ++ places (λ row. ingest_holds_itself l.at.0 row) l.base (take l.row-index l.rows);
}
