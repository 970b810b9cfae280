use Rattle.std.proofs.Common.{◌≡◌, ◌++◌, ◌+◌, length, take}
use Rattle.std.specs.List.{flat_map}
use Rattle.meta_types.specs.CollectorLabels.{is_marked_root}
use Rattle.gc_graph.specs.Built.{places}
use Rattle.gc_graph.proofs.roots.push_marked_content.Given as goal

-- the places of the slices so far are there, and the next number is known
abbrev pub invariant-loop-rows : goal.invariant-loop-rows
invariant-loop-rows l = record {
  number : l.number ≡ l.base + length (flat_map (λ rows. rows.now) (take l.rows-index l.slices));
  roots : l.roots.items ≡ l.fn.roots.items ++ places (λ row. is_marked_root row.labels) l.base
      (flat_map (λ rows. rows.now) (take l.rows-index l.slices));
}
