use Rattle.std.proofs.Common.{[]}
use Rattle.back_model.proofs.ShardPlaces.{none_apart}
use Rattle.back_model.proofs.SettledShards.{all_settled}
use Rattle.back_model.proofs.shards.Shards.new.Goals as goal

-- there is no shard
pub invariant_of-result : goal.invariant_of-result
invariant_of-result g c = rw (c.new.ensures.items, c.new-2.ensures.empty) (all_settled [] none_apart)
