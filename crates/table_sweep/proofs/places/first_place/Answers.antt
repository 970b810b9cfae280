use Rattle.std.proofs.Common.{◌∙◌, sym, arith}
use Rattle.table_sweep.specs.SnapshotPlaces.{has_name}
use Rattle.table_sweep.proofs.FirstPlace.{first_here, none_first, fail_more}
use Rattle.table_sweep.proofs.places.first_place.Goals as goal

pub loop-i-preserved : goal.loop-i-preserved
loop-i-preserved c =
    fail_more (has_name (c.args.snapshotter.now, c.args.number)) c.args.snapshots.now c.loop-i.i c.index-snapshots-i.result c.loop-i-test.true c.index-snapshots-i.is (sym c.is_named.ensures ∙ c.if-is_named.false) c.loop-i.invariant

pub returns-then-is_named : goal.returns-then-is_named
returns-then-is_named c =
    sym (first_here (has_name (c.args.snapshotter.now, c.args.number)) c.args.snapshots.now c.loop-i.i c.index-snapshots-i.result c.loop-i-test.true c.index-snapshots-i.is (sym c.is_named.ensures ∙ c.if-is_named.true) c.loop-i.invariant)

pub returns : goal.returns
returns c = sym (none_first (has_name (c.args.snapshotter.now, c.args.number)) c.args.snapshots.now (λ k d lt. c.loop-i.invariant k d (omega (arith, lt, c.loop-i-test.false))))
