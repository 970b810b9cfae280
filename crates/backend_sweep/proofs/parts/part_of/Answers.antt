use Rattle.std.proofs.Common.{◌∙◌}
use Rattle.backend_sweep.proofs.OnePart.{in_turn, part_is}
use Rattle.backend_sweep.proofs.parts.part_of.Goals as goal

pub names_between-requires-clause-order : goal.names_between-requires-clause-order
names_between-requires-clause-order c =
    in_turn c.args.snapshotter.now c.args.names.now c.begin_of-begin.result c.end_of-end.result
    c.begin_of-begin.ensures.bound c.end_of-end.ensures.bound
    c.begin_of-begin.ensures.point c.end_of-end.ensures.point

-- what stands between the two places is the snapshotter's
pub returns : goal.returns
returns c =
    c.names_between.ensures
    ∙ part_is c.args.snapshotter.now c.args.names.now c.begin_of-begin.result c.end_of-end.result
    c.begin_of-begin.ensures.bound c.end_of-end.ensures.bound
    c.begin_of-begin.ensures.point c.end_of-end.ensures.point
