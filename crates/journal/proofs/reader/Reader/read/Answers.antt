use Rattle.std.proofs.Common.{◌∙◌, ap, ℕ, List, ◌++◌}
use Rattle.journal.specs.Reading.{found}
use Rattle.journal.proofs.Blocks.{takes_nothing, takes_line, text_at, takes_all}
use Rattle.journal.proofs.Clear.{noise_at_end}
use Rattle.journal.proofs.Errors.{same_error}
use Rattle.journal.proofs.reader.Reader.read.Goals as goal

pub loop-line-init : goal.loop-line-init
loop-line-init c = takes_nothing c.args.self.now c.args.block.now

-- a line more
pub loop-line-preserved : goal.loop-line-preserved
loop-line-preserved c =
    let cut = c.in-Some.ensures.some in
    takes_line _ _ _ _ _ c.in-Some.line.now c.in-Some.later.now c.loop-line.invariant cut.0
    (c.in_ok-read_line.ensures.ok cut.1)

-- the line is damage
pub returns-in_err-read_line-clause-damaged : goal.returns-in_err-read_line-clause-damaged
returns-in_err-read_line-clause-damaged c is first text rest r =
    let cut = c.in-Some.ensures.some in
    let t = c.loop-line.invariant in
    ap (λ (x : List ℕ). (found first x).is_damaged)
    (text_at text t.taken c.in-Some.line.now c.in-Some.later.now c.args.block.now rest
    (t.is ∙ ap (λ (x : List ℕ). t.taken ++ x) cut.0))
    ∙ c.read_line.ensures.damaged
    (same_error _ _ _ _ c.in_err-read_line.was c.from_residual.ensures.1 is) cut.1 first
    (text ++ t.taken) (c.in-Some.later.now ++ rest) (t.reads first text r)

-- a byte of the last part of a line is in no UTF-8 text
pub returns-in_err-add-clause-damaged : goal.returns-in_err-add-clause-damaged
returns-in_err-add-clause-damaged c is first text rest r =
    let t = c.loop-line.invariant in
    noise_at_end first text t.taken c.loop-line.rest.now c.args.block.now rest t.is
    (c.add.ensures.damaged
    (same_error _ _ _ _ c.in_err-add.was c.from_residual-in_err-add.ensures.1 is))

pub returns-clause-ok : goal.returns-clause-ok
returns-clause-ok c first text r =
    let none = c.in_default.ensures.none in
    takes_all c.args.self.now c.loop-line.self c.add.new.self c.args.block.now c.loop-line.rest.now
    c.loop-line.invariant
    (λ first text r. c.in_ok-add.ensures.ok first text r none) first text r
