use Rattle.std.proofs.Common.{arith}
use Rattle.request_core.proofs.PairLabels.{put_is, still_allowed, refused}
use Rattle.request_core.proofs.read.labels.labels_over.Goals as goal

-- one pair more was allowed, and was put
pub loop-place-preserved : goal.loop-place-preserved
loop-place-preserved c = record {
  within = omega arith;
  allowed = still_allowed c.args.labels.now c.args.pairs.now c.loop-place.place
      c.loop-place-test.true c.loop-place.invariant.within _ c.loop-place.invariant.allowed
      c.loop-place.invariant.put c.index-pairs-place.result c.index-pairs-place.is _ _
      c.text.ensures c.text-in-loop-place.ensures c.in_default.ensures.fault;
  put = put_is c.args.labels.now c.args.pairs.now c.loop-place.place c.loop-place-test.true
      c.loop-place.invariant.within _ c.loop-place.invariant.allowed c.loop-place.invariant.put
      c.index-pairs-place.result c.index-pairs-place.is _ _ c.text.ensures
      c.text-in-loop-place.ensures _ c.in_default.ensures.ok;
}

-- a pair that isn't allowed refuses the whole
pub returns-in-Err : goal.returns-in-Err
returns-in-Err c = rw c.reading.ensures (refused c.args.labels.now c.args.pairs.now
    c.loop-place.place c.loop-place-test.true c.loop-place.invariant.within _
    c.loop-place.invariant.allowed c.loop-place.invariant.put c.index-pairs-place.result
    c.index-pairs-place.is _ _ c.text.ensures c.text-in-loop-place.ensures Unit _ c.in-Err.fault
    c.in-Err.ensures.fault)
