use Rattle.std.proofs.Common.{rules, ◌≡◌, ◌∙◌, ap, sym, map, get_or, subst}
use Rattle.std.specs.Prelude.{Some}
use Rattle.back_model.specs.Shown.{shown, AreApart, shard_at}
use Rattle.meta_types.specs.Text.{Text}
use Rattle.back_model.proofs.PlacedShards.{at_placed, placed_apart, found_named}
use Rattle.back_model.proofs.SettledShards.{item_at}
use Rattle.back_model.proofs.shards.Shards.get.Goals as goal

-- the shard at the place is the snapshotter's
pub returns-in-Some-clause-shard : goal.returns-in-Some-clause-shard
returns-in-Some-clause-shard g c =
    let f = shown g.S.SnapBackend.contents g.S.SnapBackend.fails in
    let d = c.index.result.now in
    let at = item_at f c.args.snapshotter.now c.self.inside.shards.items c.in-Some.at
    (rw c.deref.ensures.value at c.in-Some.ensures.found) in
    let here : get_or c.self.inside.shards.items c.in-Some.at d ≡ d = search rules in
    let same : d.0 ≡ c.args.snapshotter.now = rw here at (at.1 d) in
    let found = found_named f c.args.snapshotter.now c.self.inside.shards.items c.in-Some.at d at.0
    (at.1 d) c.self.invariant.once in
    ap (λ (t : Text). Some (record {
      snapshotter = t;
      snaps = g.S.SnapBackend.contents d.1;
      failures = g.S.SnapBackend.fails d.1;
    })) (sym same)
    ∙ sym (rw here at found) ∙ ap (shard_at c.args.snapshotter.now) c.self.view_is

-- no shard is the snapshotter's
pub returns-in-None-clause-shard : goal.returns-in-None-clause-shard
returns-in-None-clause-shard g c =
    let f = shown g.S.SnapBackend.contents g.S.SnapBackend.fails in
    let gone = rw c.deref.ensures.value at c.in-None.ensures.none in
    sym (at_placed c.args.snapshotter.now (map f c.self.inside.shards.items) ∙ gone)
    ∙ ap (shard_at c.args.snapshotter.now) c.self.view_is

-- they are shown in order
pub returns-in-Some-clause-order : goal.returns-in-Some-clause-order
returns-in-Some-clause-order g c =
    let f = shown g.S.SnapBackend.contents g.S.SnapBackend.fails in
    subst AreApart c.self.view_is (placed_apart (map f c.self.inside.shards.items))

pub returns-in-None-clause-order : goal.returns-in-None-clause-order
returns-in-None-clause-order g c =
    let f = shown g.S.SnapBackend.contents g.S.SnapBackend.fails in
    subst AreApart c.self.view_is (placed_apart (map f c.self.inside.shards.items))
