use Rattle.std.proofs.Common.{refl}
use Rattle.store_folder.proofs.Puts.{as_it_was}
use Rattle.store_folder.proofs.growing.grow_once.Goals as goal

-- nothing was asked yet
pub returns-in_err-size-clause-crash : goal.returns-in_err-size-clause-crash
returns-in_err-size-clause-crash g c clean only out left = as_it_was _ out (only out left)

-- it is long enough
pub returns-then-is_long-clause-longer : goal.returns-then-is_long-clause-longer
returns-then-is_long-clause-longer g c clean only = (as_it_was _ _ refl, only)

pub returns-then-is_long-clause-crash : goal.returns-then-is_long-clause-crash
returns-then-is_long-clause-crash g c clean only out left = as_it_was _ out (only out left)

-- it is longer by a step
pub returns-clause-longer : goal.returns-clause-longer
returns-clause-longer g c clean only =
    let more = c.in_ok-grow.ensures.ok clean in
    ((more.0, more.2), c.in_ok-grow.ensures.durable clean)
