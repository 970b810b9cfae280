use Rattle.store_folder.proofs.Puts.{alike, head_read}
use Rattle.store_folder.proofs.spare.Spare.open.Goals as goal

-- it has no place for notes
pub returns-then-not-has_place-clause-refused : goal.returns-then-not-has_place-clause-refused
returns-then-not-has_place-clause-refused g c clean = alike _ _ c.has_place-has_place.ensures.crash

pub returns-then-not-has_place-clause-still : goal.returns-then-not-has_place-clause-still
returns-then-not-has_place-clause-still g c clean = c.has_place-has_place.ensures.clean clean

-- it isn't opened
pub returns-in-Err-clause-refused : goal.returns-in-Err-clause-refused
returns-in-Err-clause-refused g c clean =
    head_read _ _ _ _ c.has_place-has_place.ensures.crash
    (g.met.D.Disk.seen_may_stay c.has_place-has_place.new.disk)
    (c.in-Err.ensures.refused clean).crash

pub returns-in-Err-clause-still : goal.returns-in-Err-clause-still
returns-in-Err-clause-still g c clean =
    c.has_place-has_place.ensures.clean (c.in-Err.ensures.still clean)

-- it is
pub returns-clause-opened : goal.returns-clause-opened
returns-clause-opened g c clean =
    head_read _ _ _ _ c.has_place-has_place.ensures.crash
    (g.met.D.Disk.seen_may_stay c.has_place-has_place.new.disk)
    (c.in-Ok.ensures.opened clean).crash

pub returns-clause-clean : goal.returns-clause-clean
returns-clause-clean g c clean = c.has_place-has_place.ensures.clean (c.in-Ok.ensures.clean clean)
