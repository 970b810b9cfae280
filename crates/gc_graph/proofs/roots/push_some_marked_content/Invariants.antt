use Rattle.std.proofs.Common.{◌≡◌, ◌++◌, ◌+◌, take}
use Rattle.meta_types.specs.CollectorLabels.{is_marked_root}
use Rattle.gc_graph.specs.Built.{places}
use Rattle.gc_graph.proofs.roots.push_some_marked_content.Given as goal

-- the places so far are there, and the next number is known
abbrev pub invariant-loop-row : goal.invariant-loop-row
invariant-loop-row l = record {
  number : l.number ≡ l.base + l.row-index;
  roots : l.roots.items ≡ l.fn.roots.items ++ places (λ row. is_marked_root row.labels) l.base (take l.row-index l.rows);
}
