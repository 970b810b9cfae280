use Rattle.table_sweep.proofs.Sought.{above_more}
use Rattle.table_sweep.proofs.places.all_parents.Goals as goal

-- one parent more
pub loop-at-preserved : goal.loop-at-preserved
loop-at-preserved c = record {
  parents = above_more c.args.snapshots.now c.loop-at.at c.parent.result c.loop-at.parents.items
      c.push.new.self.items
      c.loop-at-test.true c.parent.ensures.parent c.loop-at.invariant.parents
      c.in_ok-push.ensures.items;
  end = c.parent.ensures.end;
  run = c.parent.ensures.run;
}
