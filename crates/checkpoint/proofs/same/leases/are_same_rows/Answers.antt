use Rattle.std.proofs.Common.{◌<◌, IsTrue, length, sym, subst, arith}
use Rattle.checkpoint.proofs.Places.{same_at, same_more}
use Rattle.checkpoint.proofs.same.leases.are_same_rows.Goals as goal
use mathlib.Core.Bool.{true≢false}

-- one list would have one lease at this place
pub returns-then-not-branch-clause-ok : goal.returns-then-not-branch-clause-ok
returns-then-not-branch-clause-ok c =
    let within : c.loop-place.place < length c.args.others.now =
    omega (arith, c.loop-place-test.true, c.if-leases-others.false) in
    let here = same_at (λ row. row.now) c.args.leases.now c.args.others.now c.loop-place.place
    c.index-leases-place.result c.index-others-place.result c.index-leases-place.is
    c.index-others-place.is c.loop-place-test.true within in (
      λ h. absurd (true≢false (sym h)),
      λ e. subst IsTrue c.if-not-branch.true (c.in_ok-is_same_lease.ensures.ok.1 (here e)),
    )

-- one lease more is the same
pub loop-place-preserved : goal.loop-place-preserved
loop-place-preserved c =
    let within : c.loop-place.place < length c.args.others.now =
    omega (arith, c.loop-place-test.true, c.if-leases-others.false) in
    same_more (λ row. row.now) c.args.leases.now c.args.others.now c.loop-place.place
    c.index-leases-place.result c.index-others-place.result c.index-leases-place.is
    c.index-others-place.is c.loop-place-test.true within c.loop-place.invariant
    (c.in_ok-is_same_lease.ensures.ok.0 c.if-not-branch.false)
