use Rattle.std.proofs.Common.{◌∙◌, ap, refl, ℕ, List, take, drop, arith}
use Rattle.journal.proofs.Errors.{same_error}
use Rattle.journal.proofs.Zeros.{zeros_more}
use Rattle.journal.proofs.reading.check.Goals as goal

-- nothing was read yet
pub reading-init : goal.reading-init
reading-init g c = record {
  within = omega arith;
  sized = c.in_ok-size.ensures.size;
  reads = λ clean. c.new-reader.ensures;
  zeros = λ clean. (omega arith, refl);
  clean = λ clean. clean;
  rests = λ rests. rests;
  same = refl;
  crash = λ out left. left;
}

-- a block more
pub reading-preserved : goal.reading-preserved
reading-preserved g c =
    let i = c.reading.invariant in
    let before = c.read_block.ensures.clean in
    record {
      within = omega (arith, i.within, c.min-count.ensures);
      sized = λ clean. i.sized (before clean);
      reads = λ clean. rw i.same at
          (c.in_ok-read_block.ensures.ok clean c.args.first.now
          (rw i.same (i.reads (before clean))));
      zeros = λ clean. zeros_more _ c.deref.result.now c.reading.at c.min-count.result
          c.reading.till c.in-Some.next
          (let size = i.sized (before clean) in omega (arith, i.within, size))
          (c.deref.ensures.value ∙ c.in_ok-read_block.ensures.bytes clean
          ∙ ap (λ (t : List ℕ). take c.min-count.result (drop c.reading.at t)) i.same)
          c.in-Some.ensures (i.zeros (before clean));
      clean = λ clean. i.clean (before clean);
      rests = λ rests. c.read_block.ensures.rests (i.rests rests);
      same = c.read_block.ensures.same ∙ i.same;
      crash = λ out left. i.crash out (c.read_block.ensures.crash out left);
    }

pub returns-in_err-read_block-clause-damaged : goal.returns-in_err-read_block-clause-damaged
returns-in_err-read_block-clause-damaged g c is clean =
    let i = c.reading.invariant in
    rw i.same at (c.read_block.ensures.damaged
    (same_error _ _ _ _ c.in_err-read_block.was c.from_residual-in_err-read_block.ensures.1 is)
    clean c.args.first.now
    (rw i.same (i.reads (c.read_block.ensures.clean clean))))
