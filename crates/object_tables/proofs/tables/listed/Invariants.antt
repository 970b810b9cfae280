use Rattle.std.proofs.Common.{◌≡◌, take, map}
use Rattle.object_tables.proofs.tables.listed.Given as goal

-- the names so far
abbrev pub invariant-loop-name : goal.invariant-loop-name
invariant-loop-name l = l.list ≡ map (λ name. name.now) (take l.name-index l.names)
