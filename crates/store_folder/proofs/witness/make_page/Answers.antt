use Rattle.std.proofs.Common.{refl}
use Rattle.store_folder.proofs.Puts.{as_it_was}
use Rattle.store_folder.proofs.witness.make_page.Goals as goal

-- the file could not tell its size
pub returns-in_err-size-clause-crash : goal.returns-in_err-size-clause-crash
returns-in_err-size-clause-crash g c clean only out left = as_it_was _ out (only out left)

-- it has a page
pub returns-then-size-ge-PAGE-clause-crash : goal.returns-then-size-ge-PAGE-clause-crash
returns-then-size-ge-PAGE-clause-crash g c clean only out left = as_it_was _ out (only out left)

pub returns-then-size-ge-PAGE-clause-ok : goal.returns-then-size-ge-PAGE-clause-ok
returns-then-size-ge-PAGE-clause-ok g c clean only = (as_it_was _ _ refl, only)

-- it grew
pub returns-clause-ok : goal.returns-clause-ok
returns-clause-ok g c clean only =
    let more = c.in_ok-grow.ensures.ok clean in
    ((more.0, more.2), c.in_ok-grow.ensures.durable clean)
