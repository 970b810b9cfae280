use Rattle.std.proofs.Common.{◌∙◌, ap, sym, refl, ℕ, ◌+◌, List, take, arith}
use Rattle.journal.specs.Reading.{found}
use Rattle.journal.proofs.Errors.{same_error}
use Rattle.journal.proofs.Files.{all_of}
use Rattle.journal.proofs.FirstGroup.{some_in}
use Rattle.journal.proofs.reading.has_group.Goals as goal

-- nothing was read yet
pub looking-init : goal.looking-init
looking-init g c = record {
  within = omega arith;
  sized = c.in_ok-end.ensures.size;
  reads = λ clean. c.new-reader.ensures;
  clean = λ clean. clean;
  rests = λ rests. rests;
  same = refl;
  crash = λ out left. left;
}

-- a block more
pub looking-preserved : goal.looking-preserved
looking-preserved g c =
    let i = c.looking.invariant in
    let before = c.read_block.ensures.clean in
    record {
      within = omega (arith, i.within, c.min-count.ensures);
      sized = λ clean. i.sized (before clean);
      reads = λ clean. rw i.same at
          (c.in_ok-read_block.ensures.ok clean c.args.first.now
          (rw i.same (i.reads (before clean))));
      clean = λ clean. i.clean (before clean);
      rests = λ rests. c.read_block.ensures.rests (i.rests rests);
      same = c.read_block.ensures.same ∙ i.same;
      crash = λ out left. i.crash out (c.read_block.ensures.crash out left);
    }

pub returns-in_err-read_block-clause-damaged : goal.returns-in_err-read_block-clause-damaged
returns-in_err-read_block-clause-damaged g c is clean =
    let i = c.looking.invariant in
    rw i.same at (c.read_block.ensures.damaged
    (same_error _ _ _ _ c.in_err-read_block.was c.from_residual-in_err-read_block.ensures.1 is)
    clean c.args.first.now
    (rw i.same (i.reads (c.read_block.ensures.clean clean))))

-- a group was read
pub returns-then-has_group-clause-some : goal.returns-then-has_group-clause-some
returns-then-has_group-clause-some g c clean is =
    let i = c.looking.invariant in
    some_in c.args.first.now (g.D.Log.text c.args.log.now) (c.looking.at + c.min-count.result)
    c.read_block.new.reader c.has_group.result c.has_group.ensures.some c.if-has_group.true
    (rw i.same at
    (c.in_ok-read_block.ensures.ok clean c.args.first.now
    (rw i.same (i.reads (c.read_block.ensures.clean clean)))))

-- all was read
pub returns-clause-some : goal.returns-clause-some
returns-clause-some g c clean is =
    let i = c.looking.invariant in
    some_in c.args.first.now (g.D.Log.text c.args.log.now) c.looking.at c.looking.reader
    c.has_group-2.result c.has_group-2.ensures.some is (i.reads clean)

pub returns-clause-none : goal.returns-clause-none
returns-clause-none g c clean is =
    let i = c.looking.invariant in
    let size = i.sized clean in
    let all = all_of (g.D.Log.text c.args.log.now) c.looking.at _ size
    (omega (arith, c.looking-test.false)) in
    ap (λ (t : List ℕ). (found c.args.first.now t).groups) (sym all)
    ∙ c.has_group-2.ensures.none is c.args.first.now
    (take c.looking.at (g.D.Log.text c.args.log.now)) (i.reads clean)
