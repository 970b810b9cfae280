use Rattle.std.proofs.Common.{rules, ◌≡◌, []}
use Rattle.back_model.proofs.ShardPlaces.{none_apart}
use Rattle.back_model.proofs.SettledShards.{all_settled}
use Rattle.back_model.proofs.shards.Shards.take.Goals as goal

-- no shard is left
pub invariant_of-self : goal.invariant_of-self
invariant_of-self g c =
    let none : c.replace.new.dest.items ≡ [] = search rules in
    let cleared : c.clear.new.self.entries ≡ [] = c.clear.ensures.empty in
    rw (none, cleared) (all_settled [] none_apart)
