use Rattle.std.proofs.Common.{◌<◌, IsTrue, length, sym, subst, arith}
use Rattle.back_model.specs.Shown.{listed_snap}
use Rattle.checkpoint.proofs.Places.{same_at, same_more}
use Rattle.checkpoint.proofs.same.objects.are_same_snaps.Goals as goal
use mathlib.Core.Bool.{true≢false}

-- one list would have one snapshot at this place
pub returns-then-not-is_same_snap : goal.returns-then-not-is_same_snap
returns-then-not-is_same_snap c =
    let within : c.loop-place.place < length c.args.others.now =
    omega (arith, c.loop-place-test.true, c.if-snaps-others.false) in
    let here = same_at listed_snap c.args.snaps.now c.args.others.now c.loop-place.place
    c.index-snaps-place.result c.index-others-place.result c.index-snaps-place.is
    c.index-others-place.is c.loop-place-test.true within in (
      λ h. absurd (true≢false (sym h)),
      λ e. subst IsTrue c.if-not-is_same_snap.true (c.is_same_snap.ensures.1 (here e)),
    )

-- one snapshot more is the same
pub loop-place-preserved : goal.loop-place-preserved
loop-place-preserved c =
    let within : c.loop-place.place < length c.args.others.now =
    omega (arith, c.loop-place-test.true, c.if-snaps-others.false) in
    same_more listed_snap c.args.snaps.now c.args.others.now c.loop-place.place
    c.index-snaps-place.result c.index-others-place.result c.index-snaps-place.is
    c.index-others-place.is c.loop-place-test.true within c.loop-place.invariant
    (c.is_same_snap.ensures.0 c.if-not-is_same_snap.false)
