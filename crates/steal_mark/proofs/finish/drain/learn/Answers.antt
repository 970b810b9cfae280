use Rattle.std.proofs.Common.{arith}
use Rattle.steal_mark.proofs.SeatLearns.{learns}
use Rattle.steal_mark.proofs.finish.drain.learn.Goals as goal

-- a load changes nothing, and the rule tells who has every part
pub load-requires : goal.load-requires
load-requires g c = (c.requires.seat.0, (let w = c.requires.seat.1 in omega arith), rw c.requires.graph (learns c.args.claim_table.now.shared.key _ _ _ _))
