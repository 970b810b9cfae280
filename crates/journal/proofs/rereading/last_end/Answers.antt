use Rattle.std.proofs.Common.{inl, inr, refl, arith}
use Rattle.journal.proofs.LastFeeds.{cut_at}
use Rattle.journal.proofs.rereading.last_end.Goals as goal

-- the last line feed
pub returns-then-block-at-eq10-clause-lines : goal.returns-then-block-at-eq10-clause-lines
returns-then-block-at-eq10-clause-lines c rest =
    cut_at c.args.block.now c.loop-at.at c.loop-at.invariant.within
    (inr (c.loop-at-test.true, c.if-block-at-eq10.true)) rest

-- no line feed
pub returns-clause-lines : goal.returns-clause-lines
returns-clause-lines c rest = cut_at c.args.block.now 0 (omega arith) (inl refl) rest
