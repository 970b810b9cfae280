use Rattle.std.proofs.Common.{rules, ◌≡◌, length, map, sym, ◌∙◌}
use Rattle.row_tables.proofs.MappedLists.{length_map}
use Rattle.back_model.specs.Shown.{shown}
use Rattle.back_model.proofs.PlacedShards.{count_placed}
use Rattle.back_model.proofs.shards.Shards.count.Goals as goal

-- each shard is shown as one
pub returns : goal.returns
returns g c =
    let f = shown g.S.SnapBackend.contents g.S.SnapBackend.fails in
    let counted : c.len.result ≡ length c.self.inside.shards.items = search rules in
    rw (← c.self.view_is) (counted ∙ sym (length_map f c.self.inside.shards.items)
    ∙ sym (count_placed (map f c.self.inside.shards.items) c.self.invariant.once))
