use Rattle.std.proofs.Common.{◌≤◌, ◌∙◌, length, arith}
use Rattle.table_sweep.proofs.Sought.{sought_on, all_sought}
use Rattle.table_sweep.proofs.places.parents_upward.Goals as goal

-- one place more
pub loop-done-preserved : goal.loop-done-preserved
loop-done-preserved c = record {
  parents = c.seek_parent.ensures.parents ∙ c.loop-done.invariant.parents;
  needed = c.seek_parent.ensures.needed ∙ c.loop-done.invariant.needed;
  end = c.seek_parent.ensures.end;
  run = c.seek_parent.ensures.run;
  goes = λ k e. c.seek_parent.ensures.grows k (c.loop-done.invariant.goes k e);
  sought = sought_on c.args.snapshots.now c.loop-done.done c.loop-done.parents.items
      c.seek_parent.new.parents.items
      c.loop-done.needed.items c.seek_parent.new.needed.items c.loop-done-test.true
      (c.seek_parent.ensures.sought c.if-seek_parent.false) c.loop-done.invariant.sought;
}

pub returns-clause-ok : goal.returns-clause-ok
returns-clause-ok c =
    let over : length c.args.snapshots.now ≤ c.loop-done.done = omega (
      arith,
      c.loop-done-test.false,
    ) in
    all_sought c.args.snapshots.now c.args.goes.now c.loop-done.done c.loop-done.parents.items
    c.loop-done.needed.items
    over c.loop-done.invariant.sought c.loop-done.invariant.goes
