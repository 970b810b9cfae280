use Rattle.std.proofs.Common.{rules, ◌≡◌, ◌∙◌, [], map, length, sym}
use Rattle.back_model.specs.Shown.{shown}
use Rattle.back_model.proofs.PlacedShards.{placed_same}
use Rattle.back_model.proofs.SettledShards.{names, names_count, all_settled}
use Rattle.back_model.proofs.shards.Shards.put.Goals as goal

-- all are settled
pub invariant_of-self : goal.invariant_of-self
invariant_of-self g c =
    let f = shown g.S.SnapBackend.contents g.S.SnapBackend.fails in
    let counted : c.len-self-inside.result ≡ length c.args.shards.items = search rules in
    let count : c.len-self-inside.result ≡ length (names f c.args.shards.items) =
    counted ∙ sym (names_count f c.args.shards.items) in
    let none : c.clear.new.self.entries ≡ [] = search rules in
    rw (count, none) (all_settled (names f c.args.shards.items) c.requires)

-- they stand where they were
pub returns : goal.returns
returns g c =
    let f = shown g.S.SnapBackend.contents g.S.SnapBackend.fails in
    placed_same (map f c.args.shards.items) c.requires
