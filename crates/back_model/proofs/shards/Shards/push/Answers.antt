use Rattle.std.proofs.Common.{rules, ◌≡◌, ◌∙◌, [], ◌∷◌, ◌++◌, length, ap, map, sym}
use Rattle.std.specs.Prelude.{None}
use Rattle.std.specs.BTreeMap.{insert_entry}
use Rattle.meta_types.specs.Text.{text_cmp}
use Rattle.back_model.specs.Shown.{shown, shard_at, put_shard}
use Rattle.back_model.specs.Settled.{in_place}
use Rattle.back_model.proofs.PlacedShards.{at_placed, push_placed}
use Rattle.back_model.proofs.SettledShards.{push_settled}
use Rattle.back_model.proofs.shards.Shards.push.Goals as goal

-- shards stay settled where one stands behind all others
pub invariant_of-self-2 : goal.invariant_of-self-2
invariant_of-self-2 g c =
    let f = shown g.S.SnapBackend.contents g.S.SnapBackend.fails in
    let gone : shard_at c.args.snapshotter (map f c.self.inside.shards.items) ≡ None =
    sym (at_placed c.args.snapshotter (map f c.self.inside.shards.items))
    ∙ ap (shard_at c.args.snapshotter) c.self.view_is ∙ c.requires in
    let added : c.add.new.shards.items
    ≡ c.self.inside.shards.items ++ (c.args.snapshotter, c.args.shard) ∷ [] = search rules in
    let noted : c.add.new.places.entries ≡ insert_entry text_cmp c.self.inside.places.entries
    c.args.snapshotter (length c.self.inside.shards.items) = search rules in
    rw (added, noted) (push_settled f (c.args.snapshotter, c.args.shard)
    c.self.inside.shards.items c.self.inside.settled c.self.inside.places.entries gone
    c.self.invariant)

-- the new shard is put
pub returns-clause-ok : goal.returns-clause-ok
returns-clause-ok g c =
    let f = shown g.S.SnapBackend.contents g.S.SnapBackend.fails in
    let gone : shard_at c.args.snapshotter (map f c.self.inside.shards.items) ≡ None =
    sym (at_placed c.args.snapshotter (map f c.self.inside.shards.items))
    ∙ ap (shard_at c.args.snapshotter) c.self.view_is ∙ c.requires in
    let added : c.add.new.shards.items
    ≡ c.self.inside.shards.items ++ (c.args.snapshotter, c.args.shard) ∷ [] = search rules in
    ap (λ l. in_place (map f l)) added
    ∙ push_placed f (c.args.snapshotter, c.args.shard) c.self.inside.shards.items gone
    ∙ ap (put_shard (f (c.args.snapshotter, c.args.shard))) c.self.view_is
