use Rattle.std.proofs.Common.{◌≡◌, ◌++◌, ◌+◌, length, take}
use Rattle.std.specs.List.{flat_map}
use Rattle.meta_types.specs.Paths.{ingest_holds_itself}
use Rattle.gc_graph.specs.Built.{places}
use Rattle.gc_graph.proofs.roots.push_own_ingests.Given as goal

-- the places of the slices so far are there, and the next number is known
abbrev pub invariant-loop-rows : goal.invariant-loop-rows
invariant-loop-rows l = record {
  number : l.number ≡ l.base + length (flat_map (λ rows. rows.now) (take l.rows-index l.slices));
  roots : l.roots.items ≡ l.fn.roots.items ++ places (λ row. ingest_holds_itself l.at.0 row) l.base
      (flat_map (λ rows. rows.now) (take l.rows-index l.slices));
}
