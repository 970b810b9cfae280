use Rattle.std.proofs.Common.{[]}
use Rattle.store_folder.proofs.Lengthening.{holds_longer}
use Rattle.store_folder.proofs.steps.stretching.stretch_spare.Goals as goal

pub returns-clause-holds : goal.returns-clause-holds
returns-clause-holds g c clean kept holds =
    holds_longer _ _ _ _ _ _ _ _ _ _ _ kept [] (g.met.E.Counting.believes c.args.folder.file)
    (g.met.E.Counting.selects c.args.folder.file) holds (c.lengthen.ensures.crash clean)
