use Rattle.std.proofs.Common.{sym, subst}
use Rattle.steal_mark.specs.Claiming.{Knows}
use Rattle.steal_mark.proofs.Stolen.{ok_weaker}
use Rattle.steal_mark.proofs.Concluded.{holds, in_range, marked}
use Rattle.steal_mark.proofs.finish.marks.conclude.Goals as goal

-- what is listed is a node
pub marks_of-requires : goal.marks_of-requires
marks_of-requires c = in_range c.args.graph.now c.args.rows.now c.args.lists.now c.args.seat.now.me.0 c.requires.balanced (subst (λ x. Knows x c.args.seat.now.me.0) (sym c.requires.graph) c.learn.ensures.knows) c.requires.range

-- the one seat knows all claims
pub returns-clause-lists : goal.returns-clause-lists
returns-clause-lists c = holds c.args.graph.now c.args.rows.now c.args.lists.now c.args.seat.now.me.0 c.requires.balanced (subst (λ x. Knows x c.args.seat.now.me.0) (sym c.requires.graph) c.learn.ensures.knows)

-- what is listed is what is reached
pub returns-clause-marks : goal.returns-clause-marks
returns-clause-marks c = ok_weaker _ _ c.marks_of.result (λ m h. marked c.args.graph.now c.args.rows.now c.args.lists.now c.args.seat.now.me.0 c.requires.balanced (subst (λ x. Knows x c.args.seat.now.me.0) (sym c.requires.graph) c.learn.ensures.knows) m h) c.marks_of.ensures
