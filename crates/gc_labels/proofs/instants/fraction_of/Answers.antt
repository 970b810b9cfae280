-- At most nine digits, filled with zeros to nine, write a number of nine digits.
use Rattle.std.proofs.Common.{◌≤◌, ◌*◌, arith}
use Rattle.gc_labels.proofs.Scales.{scaled}
use Rattle.gc_labels.proofs.instants.fraction_of.Goals as goal

small : (c : goal.After-pow) → c.number.result * c.pow.result ≤ 23000000000
small c = rw c.pow.ensures (scaled c.number.result _ c.requires c.number.ensures.scale)

pub overflow_mul-result : goal.overflow_mul-result
overflow_mul-result c = omega (arith, small c)

pub returns-clause-bound : goal.returns-clause-bound
returns-clause-bound c = small c
