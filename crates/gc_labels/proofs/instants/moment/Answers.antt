use Rattle.std.proofs.Common.{◌∙◌, ◌-ℤ◌, ◌+ℤ◌, ◌*ℤ◌, pos, to_z, of_z, w32, w64}
use Rattle.std.proofs.lemmas.Int.{to_z-of_z}
use mir.Syntax.{w128}
use Rattle.gc_labels.proofs.Wide.{wide, wide_later}
use Rattle.gc_labels.proofs.instants.moment.Goals as goal

-- the numbers are the ones passed, and no step leaves 128 bits
pub returns-clause-moment : goal.returns-clause-moment
returns-clause-moment c =
    let day_is = c.from.ensures ∙ to_z-of_z w32 c.args.day c.ranges.day in
    let offset_is = c.from-3.ensures ∙ to_z-of_z w64 c.args.offset c.ranges.offset in
    (λ i. to_z w128 (of_z w128 (to_z w128 (of_z w128 (to_z w128 (of_z w128 (to_z w128 (of_z w128 (day_is i)) *ℤ pos 86400000000000)) +ℤ to_z w128 (of_z w128 (c.from-2.ensures i)))) -ℤ to_z w128 (of_z w128 (offset_is i)))))
    ∙ wide c.args.day c.args.nanosecond c.args.offset c.ranges.day c.ranges.nanosecond.fits c.ranges.offset

-- a day can be added
pub returns-clause-wide : goal.returns-clause-wide
returns-clause-wide c =
    rw (returns-clause-moment c) (wide_later c.args.day c.args.nanosecond c.args.offset c.ranges.day c.ranges.nanosecond.fits c.ranges.offset)
