use Rattle.std.proofs.Common.{◌∙◌, take}
use Rattle.journal.proofs.Errors.{same_error}
use Rattle.journal.proofs.Files.{block_more, block_damage}
use Rattle.journal.proofs.reading.read_block.Goals as goal

-- the reader takes the block
pub returns-clause-ok : goal.returns-clause-ok
returns-clause-ok g c clean first r =
    let bytes = c.deref.ensures.value ∙ c.in_ok-read.ensures.bytes clean in
    block_more first (g.D.Log.text c.args.log.now) c.deref.result.now c.args.at c.args.count
    c.args.reader.now c.read-2.new.self bytes
    (λ r. c.in_ok-read-2.ensures.ok first (take c.args.at (g.D.Log.text c.args.log.now)) r) r

-- the block is damage
pub returns-in_err-read-2-clause-damaged : goal.returns-in_err-read-2-clause-damaged
returns-in_err-read-2-clause-damaged g c is clean first r =
    let bytes = c.deref.ensures.value ∙ c.in_ok-read.ensures.bytes clean in
    block_damage first (g.D.Log.text c.args.log.now) c.deref.result.now c.args.at c.args.count bytes
    (λ rest. c.read-2.ensures.damaged
    (same_error _ _ _ _ c.in_err-read-2.was c.from_residual-in_err-read-2.ensures.1 is) first
    (take c.args.at (g.D.Log.text c.args.log.now)) rest r)
