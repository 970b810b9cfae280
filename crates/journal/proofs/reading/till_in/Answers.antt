use Rattle.journal.proofs.Zeros.{none_more, some_more}
use Rattle.journal.proofs.reading.till_in.Goals as goal

-- a block of zeros
pub returns-then-last-eq0 : goal.returns-then-last-eq0
returns-then-last-eq0 c text size zeros =
    none_more text c.args.block.now c.args.till c.last_byte-last.result c.if-last-eq0.true
    c.last_byte-last.ensures.zeros zeros

-- the last byte of this block
pub returns : goal.returns
returns c text size zeros =
    rw c.in-Some.ensures
    (some_more text c.args.block.now c.args.at c.last_byte-last.result size
    c.last_byte-last.ensures.within c.last_byte-last.ensures.zeros)
