use Rattle.std.proofs.Common.{rules, ◌≡◌, ◌∙◌, [], ◌∷◌, ◌++◌, length, ap, map}
use Rattle.std.specs.Prelude.{None}
use Rattle.std.specs.BTreeMap.{insert_entry}
use Rattle.meta_types.specs.Text.{text_cmp}
use Rattle.back_model.specs.Settled.{in_place}
use Rattle.back_model.specs.Shown.{shown, put_shard}
use Rattle.back_model.proofs.PlacedShards.{set_placed, push_placed}
use Rattle.back_model.proofs.SettledShards.{item_at, set_settled, push_settled}
use Rattle.back_model.proofs.shards.Shards.set.Goals as goal

-- shards stay settled where one is replaced
pub invariant_of-self : goal.invariant_of-self
invariant_of-self g c =
    let f = shown g.S.SnapBackend.contents g.S.SnapBackend.fails in
    let at = item_at f c.args.snapshotter c.self.inside.shards.items c.in-Some.at
    (rw c.deref.ensures.value at c.in-Some.ensures.found) in
    set_settled f (c.args.snapshotter, c.args.shard) c.self.inside.shards.items
    c.self.inside.settled c.in-Some.at c.self.inside.places.entries at.1 c.self.invariant

-- the shard is replaced
pub returns-in-Some-clause-ok : goal.returns-in-Some-clause-ok
returns-in-Some-clause-ok g c =
    let f = shown g.S.SnapBackend.contents g.S.SnapBackend.fails in
    let at = item_at f c.args.snapshotter c.self.inside.shards.items c.in-Some.at
    (rw c.deref.ensures.value at c.in-Some.ensures.found) in
    set_placed f (c.args.snapshotter, c.args.shard) c.self.inside.shards.items c.in-Some.at at.0
    at.1 c.self.invariant.once
    ∙ ap (put_shard (f (c.args.snapshotter, c.args.shard))) c.self.view_is

-- the shards are settled before
pub place_of-requires-after_bounds : goal.place_of-requires-after_bounds
place_of-requires-after_bounds g c κs within = rw c.deref.ensures.value c.self.invariant

-- they stay settled where one stands behind all others
pub invariant_of-self-in-Continue-1 : goal.invariant_of-self-in-Continue-1
invariant_of-self-in-Continue-1 g c =
    let f = shown g.S.SnapBackend.contents g.S.SnapBackend.fails in
    let gone = rw c.deref.ensures.value at c.in-None.ensures.none in
    let added : c.add.new.shards.items
    ≡ c.self.inside.shards.items ++ (c.args.snapshotter, c.args.shard) ∷ [] = search rules in
    let noted : c.add.new.places.entries ≡ insert_entry text_cmp c.self.inside.places.entries
    c.args.snapshotter (length c.self.inside.shards.items) = search rules in
    rw (added, noted) (push_settled f (c.args.snapshotter, c.args.shard)
    c.self.inside.shards.items c.self.inside.settled c.self.inside.places.entries gone
    c.self.invariant)

-- the new shard is put
pub returns-in_ok-add-in-None-clause-ok : goal.returns-in_ok-add-in-None-clause-ok
returns-in_ok-add-in-None-clause-ok g c =
    let f = shown g.S.SnapBackend.contents g.S.SnapBackend.fails in
    let gone = rw c.deref.ensures.value at c.in-None.ensures.none in
    let added : c.add.new.shards.items
    ≡ c.self.inside.shards.items ++ (c.args.snapshotter, c.args.shard) ∷ [] = search rules in
    ap (λ l. in_place (map f l)) added
    ∙ push_placed f (c.args.snapshotter, c.args.shard) c.self.inside.shards.items gone
    ∙ ap (put_shard (f (c.args.snapshotter, c.args.shard))) c.self.view_is
