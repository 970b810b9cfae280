use Rattle.std.proofs.Common.{rules, ◌≡◌, ◌∙◌, ap, sym, map, get_or}
use Rattle.std.specs.Prelude.{Some}
use Rattle.back_model.specs.Shown.{shown, shard_at, shard_after, put_shard}
use Rattle.back_model.specs.Settled.{in_place}
use Rattle.back_model.proofs.Making.{shard_is}
use Rattle.back_model.proofs.PlacedShards.{at_placed, found_named, set_placed}
use Rattle.back_model.proofs.SettledShards.{item_at, set_settled}
use Rattle.back_model.proofs.shards.Shards.make_there.Goals as goal

-- shards stay settled where one changes
pub invariant_of-self : goal.invariant_of-self
invariant_of-self g c =
    let f = shown g.S.SnapBackend.contents g.S.SnapBackend.fails in
    let d = c.index_mut-entry.result.now in
    let place = item_at f c.args.snapshotter.now c.self.inside.shards.items c.in-Some.at
    (rw c.deref.ensures.value at c.in-Some.ensures.found) in
    let here : get_or c.self.inside.shards.items c.in-Some.at d ≡ d = search rules in
    let same : d.0 ≡ c.args.snapshotter.now = rw here at (place.1 d) in
    set_settled f (d.0, c.make.new.self) c.self.inside.shards.items c.self.inside.settled c.in-Some.at c.self.inside.places.entries (λ e. place.1 e ∙ sym same) c.self.invariant

-- there is a shard
pub unreachable-requires : goal.unreachable-requires
unreachable-requires g c =
    let f = shown g.S.SnapBackend.contents g.S.SnapBackend.fails in
    let gone = rw c.deref.ensures.value at c.in-None.ensures.none in
    c.requires (ap (shard_at c.args.snapshotter.now) (sym c.self.view_is) ∙ at_placed c.args.snapshotter.now (map f c.self.inside.shards.items) ∙ gone)

-- the shard at the place is the one that is asked
pub returns-clause-fault : goal.returns-clause-fault
returns-clause-fault g c =
    let f = shown g.S.SnapBackend.contents g.S.SnapBackend.fails in
    let d = c.index_mut-entry.result.now in
    let place = item_at f c.args.snapshotter.now c.self.inside.shards.items c.in-Some.at
    (rw c.deref.ensures.value at c.in-Some.ensures.found) in
    let here : get_or c.self.inside.shards.items c.in-Some.at d ≡ d = search rules in
    let found : shard_at c.args.snapshotter.now c.args.self.now ≡ Some (f d) =
    ap (shard_at c.args.snapshotter.now) (sym c.self.view_is) ∙ rw here at (found_named f c.args.snapshotter.now c.self.inside.shards.items c.in-Some.at d place.0 (place.1 d) c.self.invariant.once) in
    rw found c.make.ensures.fault

-- the shard at the place is the one that changes
pub returns-clause-put : goal.returns-clause-put
returns-clause-put g c =
    let f = shown g.S.SnapBackend.contents g.S.SnapBackend.fails in
    let d = c.index_mut-entry.result.now in
    let place = item_at f c.args.snapshotter.now c.self.inside.shards.items c.in-Some.at
    (rw c.deref.ensures.value at c.in-Some.ensures.found) in
    let here : get_or c.self.inside.shards.items c.in-Some.at d ≡ d = search rules in
    let at = found_named f c.args.snapshotter.now c.self.inside.shards.items c.in-Some.at d place.0 (place.1 d) c.self.invariant.once in
    let found : shard_at c.args.snapshotter.now c.args.self.now ≡ Some (f d) = ap (shard_at c.args.snapshotter.now) (sym c.self.view_is) ∙ rw here at at in
    let same : d.0 ≡ c.args.snapshotter.now = rw here at (place.1 d) in
    let now = shard_is c.args.snapshotter.now c.args.self.now c.args.number c.args.parent c.make.result (f d) d.0 (g.S.SnapBackend.contents c.make.new.self) (g.S.SnapBackend.fails c.make.new.self) found same c.make.ensures.ok c.make.ensures.err c.make.ensures.fails in
    set_placed f (d.0, c.make.new.self) c.self.inside.shards.items c.in-Some.at place.0 (λ e. place.1 e ∙ sym same) c.self.invariant.once
    ∙ ap (λ s. put_shard s (in_place (map f c.self.inside.shards.items))) now
    ∙ ap (put_shard (shard_after c.make.result c.args.snapshotter.now c.args.self.now c.args.number c.args.parent)) c.self.view_is
