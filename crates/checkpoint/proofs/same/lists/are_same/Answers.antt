use Rattle.std.proofs.Common.{◌<◌, IsTrue, length, sym, subst, arith}
use Rattle.checkpoint.proofs.Places.{same_at, same_more}
use Rattle.checkpoint.proofs.same.lists.are_same.Goals as goal
use mathlib.Core.Bool.{true≢false}

-- one list would have one row at this place
pub returns-then-not-is_same : goal.returns-then-not-is_same
returns-then-not-is_same g c =
    let within : c.loop-place.place < length c.args.others.now =
    omega (arith, c.loop-place-test.true, c.if-rows-others.false) in
    let here = same_at (λ row. row.now) c.args.rows.now c.args.others.now c.loop-place.place
    c.index-rows-place.result c.index-others-place.result c.index-rows-place.is
    c.index-others-place.is c.loop-place-test.true within in (
      λ h. absurd (true≢false (sym h)),
      λ e. subst IsTrue c.if-not-is_same.true (c.is_same.ensures.1 (here e)),
    )

-- one row more is the same
pub loop-place-preserved : goal.loop-place-preserved
loop-place-preserved g c =
    let within : c.loop-place.place < length c.args.others.now =
    omega (arith, c.loop-place-test.true, c.if-rows-others.false) in
    same_more (λ row. row.now) c.args.rows.now c.args.others.now c.loop-place.place
    c.index-rows-place.result c.index-others-place.result c.index-rows-place.is
    c.index-others-place.is c.loop-place-test.true within c.loop-place.invariant
    (c.is_same.ensures.0 c.if-not-is_same.false)
