use Rattle.std.proofs.Common.{rules, ◌≡◌}
use Rattle.std.specs.Prelude.{None}
use Rattle.std.specs.FinMap as finmap
use Rattle.back_model.specs.Snaps.{is_parent_held}
use Rattle.back_model.specs.Shown.{shown, shard_at, snaps_at, put_shard}
use Rattle.back_model.proofs.Making.{made_listed, made_err, made_fails, none_held, no_parent, none_asked, not_shown, made_fresh, fault_fresh, is_there}
use Rattle.back_model.proofs.shards.Shards.make.Goals as goal

-- ---- in a shard that is there

pub returns-then-is_some-clause-listed : goal.returns-then-is_some-clause-listed
returns-then-is_some-clause-listed g c = rw c.make_there.ensures.put (made_listed c.args.snapshotter.now c.args.self.now c.args.number c.args.parent c.make_there.result (is_parent_held (snaps_at c.args.snapshotter.now c.args.self.now) c.args.parent) c.get.ensures.order c.make_there.ensures.fault)

pub returns-then-is_some-clause-err : goal.returns-then-is_some-clause-err
returns-then-is_some-clause-err g c = rw c.make_there.ensures.put (made_err c.args.snapshotter.now c.args.self.now c.args.number c.args.parent c.make_there.result c.get.ensures.order)

pub returns-then-is_some-clause-fails : goal.returns-then-is_some-clause-fails
returns-then-is_some-clause-fails g c = rw c.make_there.ensures.put (made_fails c.args.snapshotter.now c.args.self.now c.args.number c.args.parent c.make_there.result c.get.ensures.order)

-- ---- where there is no shard, no parent is there

pub returns-then-is_some-2-clause-fault : goal.returns-then-is_some-2-clause-fault
returns-then-is_some-2-clause-fault g c =
    let gone : shard_at c.args.snapshotter.now c.args.self.now ≡ None = not_shown (λ s. shown g.S.SnapBackend.contents g.S.SnapBackend.fails (c.args.snapshotter.now, s.now)) c.get.result (shard_at c.args.snapshotter.now c.args.self.now) c.get.ensures.shard (search rules) in
    (none_held c.args.snapshotter.now c.args.self.now c.args.number c.args.parent gone c.args.number, no_parent c.args.snapshotter.now c.args.self.now c.args.number c.args.parent gone c.args.parent (search rules))

pub returns-in_default-clause-fault : goal.returns-in_default-clause-fault
returns-in_default-clause-fault g c =
    let gone : shard_at c.args.snapshotter.now c.args.self.now ≡ None = not_shown (λ s. shown g.S.SnapBackend.contents g.S.SnapBackend.fails (c.args.snapshotter.now, s.now)) c.get.result (shard_at c.args.snapshotter.now c.args.self.now) c.get.ensures.shard (search rules) in
    (none_held c.args.snapshotter.now c.args.self.now c.args.number c.args.parent gone c.args.number, none_asked (snaps_at c.args.snapshotter.now c.args.self.now) c.args.parent (search rules))

pub returns-then-is_err-clause-fault : goal.returns-then-is_err-clause-fault
returns-then-is_err-clause-fault g c =
    let gone : shard_at c.args.snapshotter.now c.args.self.now ≡ None = not_shown (λ s. shown g.S.SnapBackend.contents g.S.SnapBackend.fails (c.args.snapshotter.now, s.now)) c.get.result (shard_at c.args.snapshotter.now c.args.self.now) c.get.ensures.shard (search rules) in
    (none_held c.args.snapshotter.now c.args.self.now c.args.number c.args.parent gone c.args.number, none_asked (snaps_at c.args.snapshotter.now c.args.self.now) c.args.parent (search rules))

-- ---- in a fresh shard

pub make_there-requires-2-after_bounds : goal.make_there-requires-2-after_bounds
make_there-requires-2-after_bounds g c κs within =
    let gone : shard_at c.args.snapshotter.now c.args.self.now ≡ None = not_shown (λ s. shown g.S.SnapBackend.contents g.S.SnapBackend.fails (c.args.snapshotter.now, s.now)) c.get.result (shard_at c.args.snapshotter.now c.args.self.now) c.get.ensures.shard (search rules) in
    let set : c.push.new.self ≡ put_shard (record { snapshotter = c.args.snapshotter.now; snaps = finmap.empty; failures = 0 }) c.args.self.now = search rules in
    is_there c.args.snapshotter.now c.args.self.now c.args.number c.args.parent gone c.push.new.self set

pub returns-clause-fault : goal.returns-clause-fault
returns-clause-fault g c =
    let gone : shard_at c.args.snapshotter.now c.args.self.now ≡ None = not_shown (λ s. shown g.S.SnapBackend.contents g.S.SnapBackend.fails (c.args.snapshotter.now, s.now)) c.get.result (shard_at c.args.snapshotter.now c.args.self.now) c.get.ensures.shard (search rules) in
    let set : c.push.new.self ≡ put_shard (record { snapshotter = c.args.snapshotter.now; snaps = finmap.empty; failures = 0 }) c.args.self.now = search rules in
    fault_fresh c.args.snapshotter.now c.args.self.now c.args.number c.args.parent gone c.make_there-2.result c.push.new.self set c.make_there-2.ensures.fault

pub returns-clause-ok : goal.returns-clause-ok
returns-clause-ok g c =
    let gone : shard_at c.args.snapshotter.now c.args.self.now ≡ None = not_shown (λ s. shown g.S.SnapBackend.contents g.S.SnapBackend.fails (c.args.snapshotter.now, s.now)) c.get.result (shard_at c.args.snapshotter.now c.args.self.now) c.get.ensures.shard (search rules) in
    let set : c.push.new.self ≡ put_shard (record { snapshotter = c.args.snapshotter.now; snaps = finmap.empty; failures = 0 }) c.args.self.now = search rules in
    let now = made_fresh c.args.snapshotter.now c.args.self.now c.args.number c.args.parent gone c.make_there-2.result c.push.new.self c.make_there-2.new.self set c.make_there-2.ensures.put in
    search (rules, now)

pub returns-clause-listed : goal.returns-clause-listed
returns-clause-listed g c =
    let gone : shard_at c.args.snapshotter.now c.args.self.now ≡ None = not_shown (λ s. shown g.S.SnapBackend.contents g.S.SnapBackend.fails (c.args.snapshotter.now, s.now)) c.get.result (shard_at c.args.snapshotter.now c.args.self.now) c.get.ensures.shard (search rules) in
    let set : c.push.new.self ≡ put_shard (record { snapshotter = c.args.snapshotter.now; snaps = finmap.empty; failures = 0 }) c.args.self.now = search rules in
    let now = made_fresh c.args.snapshotter.now c.args.self.now c.args.number c.args.parent gone c.make_there-2.result c.push.new.self c.make_there-2.new.self set c.make_there-2.ensures.put in
    let fault = fault_fresh c.args.snapshotter.now c.args.self.now c.args.number c.args.parent gone c.make_there-2.result c.push.new.self set c.make_there-2.ensures.fault in
    rw now (made_listed c.args.snapshotter.now c.args.self.now c.args.number c.args.parent c.make_there-2.result (is_parent_held (snaps_at c.args.snapshotter.now c.args.self.now) c.args.parent) c.get.ensures.order fault)

pub returns-clause-err : goal.returns-clause-err
returns-clause-err g c =
    let gone : shard_at c.args.snapshotter.now c.args.self.now ≡ None = not_shown (λ s. shown g.S.SnapBackend.contents g.S.SnapBackend.fails (c.args.snapshotter.now, s.now)) c.get.result (shard_at c.args.snapshotter.now c.args.self.now) c.get.ensures.shard (search rules) in
    let set : c.push.new.self ≡ put_shard (record { snapshotter = c.args.snapshotter.now; snaps = finmap.empty; failures = 0 }) c.args.self.now = search rules in
    let now = made_fresh c.args.snapshotter.now c.args.self.now c.args.number c.args.parent gone c.make_there-2.result c.push.new.self c.make_there-2.new.self set c.make_there-2.ensures.put in
    rw now (made_err c.args.snapshotter.now c.args.self.now c.args.number c.args.parent c.make_there-2.result c.get.ensures.order)

pub returns-clause-fails : goal.returns-clause-fails
returns-clause-fails g c =
    let gone : shard_at c.args.snapshotter.now c.args.self.now ≡ None = not_shown (λ s. shown g.S.SnapBackend.contents g.S.SnapBackend.fails (c.args.snapshotter.now, s.now)) c.get.result (shard_at c.args.snapshotter.now c.args.self.now) c.get.ensures.shard (search rules) in
    let set : c.push.new.self ≡ put_shard (record { snapshotter = c.args.snapshotter.now; snaps = finmap.empty; failures = 0 }) c.args.self.now = search rules in
    let now = made_fresh c.args.snapshotter.now c.args.self.now c.args.number c.args.parent gone c.make_there-2.result c.push.new.self c.make_there-2.new.self set c.make_there-2.ensures.put in
    rw now (made_fails c.args.snapshotter.now c.args.self.now c.args.number c.args.parent c.make_there-2.result c.get.ensures.order)
