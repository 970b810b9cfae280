use Rattle.std.proofs.Common.{◌∙◌, sym, refl, arith}
use Rattle.kept_store.proofs.Replayed.{all_read, all_counted, none_done, none_counted}
use Rattle.kept_store.proofs.replaying.replay.Goals as goal

-- nothing was done yet
pub replaying-init : goal.replaying-init
replaying-init g c = record {
  done = λ clean. none_done c.args.store.now (g.D.Log.text c.args.log.now) c.args.end;
  counted = λ clean. none_counted (g.D.Log.text c.args.log.now) c.args.end;
  clean = λ clean. clean;
  rests = λ rests. rests;
  same = refl;
  crash = λ out left. left;
}

-- a block more
pub replaying-preserved : goal.replaying-preserved
replaying-preserved g c =
    let i = c.replaying.invariant in
    let before = c.replay_block.ensures.clean in
    record {
      done = λ clean. sym (rw i.same at
          (c.in_ok-next.ensures.ok clean (omega (arith, c.replaying-test.true))))
          ∙ i.done (before clean);
      counted = λ clean. sym (rw i.same at
          (c.in_ok-next.ensures.counts clean (omega (arith, c.replaying-test.true))))
          ∙ i.counted (before clean);
      clean = λ clean. i.clean (before clean);
      rests = λ rests. c.replay_block.ensures.rests (i.rests rests);
      same = c.replay_block.ensures.same ∙ i.same;
      crash = λ out left. i.crash out (c.replay_block.ensures.crash out left);
    }

pub returns-clause-ok : goal.returns-clause-ok
returns-clause-ok g c clean =
    let i = c.replaying.invariant in
    sym (all_read _ _ c.replaying.at c.args.end (omega (arith, c.replaying-test.false)))
    ∙ i.done clean

pub returns-clause-counts : goal.returns-clause-counts
returns-clause-counts g c clean =
    let i = c.replaying.invariant in
    sym (all_counted _ _ c.replaying.at c.args.end (omega (arith, c.replaying-test.false)))
    ∙ i.counted clean
