use Rattle.std.proofs.Common.{arith}
use Rattle.journal.proofs.Zeros.{one_zero_more}
use Rattle.journal.proofs.reading.last_byte.Goals as goal

pub loop-at-preserved : goal.loop-at-preserved
loop-at-preserved c = record {
  within = omega (arith, c.loop-at.invariant.within);
  zeros = one_zero_more c.args.text.now c.loop-at.at c.loop-at-test.true c.loop-at.invariant.within
      c.if-text-at-eq0.true c.loop-at.invariant.zeros;
}
