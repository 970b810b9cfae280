use Rattle.std.proofs.Common.{◌≡◌, map, take}
use Rattle.table_sweep.specs.Depths.{key_name}
use Rattle.table_sweep.proofs.depths.names_of.Given as goal

-- the names so far are there
abbrev pub invariant-loop-key : goal.invariant-loop-key
invariant-loop-key l = l.names.items ≡ map key_name (take l.key-index l.keys)
