use Rattle.std.proofs.Common.{◌∙◌, sym}
use Rattle.journal.specs.Reads.{ReadSo}
use Rattle.journal.proofs.Errors.{same_error}
use Rattle.journal.proofs.ReadOn.{reads_bytes}
use Rattle.journal.proofs.reader.Reader.add.Goals as goal

-- the bytes go behind the piece of a line
pub returns-clause-ok : goal.returns-clause-ok
returns-clause-ok c first text r none =
    let read : ReadSo first text c.args.self.now.last c.args.self.now.end c.args.self.now.sum
    c.args.self.now.once c.args.self.now.is_over
    c.args.self.now.at c.args.self.now.head.items c.args.self.now.is_torn c.args.self.now.hasher =
    r in
    rw c.is_torn-has_zero.ensures
    (reads_bytes first text _ _ _ _ _ _ _ _ _ c.args.bytes.now c.add_head.new.head.items none
    (sym c.has_noise.ensures ∙ c.if-has_noise.false) c.in_ok-add_head.ensures.ok
    _ c.in-Some.at c.in-Some.ensures
    (λ all m holds. rw c.deref.ensures.value at
    (c.sum_part.ensures (rw c.is_torn-has_zero.ensures all) m holds)) read)

-- the head of the line isn't why
pub returns-in_err-add_head-clause-damaged : goal.returns-in_err-add_head-clause-damaged
returns-in_err-add_head-clause-damaged c is =
    absurd (c.add_head.ensures.blind
    (same_error _ _ _ _ c.in_err-add_head.was c.from_residual.ensures.1 is))
