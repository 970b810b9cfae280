use Rattle.std.proofs.Common.{◌≡◌, ◌∷◌, [], take, if◌then◌else◌}
use Rattle.std.specs.List.{flat_map}
use Rattle.meta_types.specs.CollectorLabels.{is_unreadable}
use Rattle.gc_graph.proofs.ignored.ignored_leases.Given as goal

-- the names of the rows so far are there
abbrev pub invariant-loop-row : goal.invariant-loop-row
invariant-loop-row l = l.names.items
    ≡ flat_map (λ row. if is_unreadable row.now.labels then (row.now.ns, row.now.id) ∷ [] else []) (take l.row-index l.rows)
