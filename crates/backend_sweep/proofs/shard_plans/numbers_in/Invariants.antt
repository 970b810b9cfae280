use Rattle.std.proofs.Common.{◌≡◌, map, take}
use Rattle.backend_sweep.proofs.shard_plans.numbers_in.Given as goal

abbrev pub invariant-loop-name : goal.invariant-loop-name
invariant-loop-name l = l.numbers.items ≡ map (λ name. name.1) (take l.name-index l.names)
