use Rattle.std.proofs.Common.{[]}
use Rattle.store_folder.proofs.Standing.{holds_moved}
use Rattle.store_folder.proofs.leaving.open_spare.Goals as goal

pub returns-in-Err-clause-refused : goal.returns-in-Err-clause-refused
returns-in-Err-clause-refused g c clean kept holds =
    holds_moved _ _ _ _ _ _ _ _ _ _ _ kept [] (g.met.E.Counting.believes c.args.folder.file)
    (g.met.E.Counting.selects c.args.folder.file) holds (c.in-Err.ensures.refused clean)

pub returns-clause-opened : goal.returns-clause-opened
returns-clause-opened g c clean kept holds =
    holds_moved _ _ _ _ _ _ _ _ _ _ _ kept [] (g.met.E.Counting.believes c.args.folder.file)
    (g.met.E.Counting.selects c.args.folder.file) holds (c.in-Ok.ensures.opened clean)
