use Rattle.store_folder.proofs.Standing.{both_of}
use Rattle.store_folder.proofs.running.run_folder.Goals as goal

-- what was read of both files is what was read before the run
pub returns-clause-reads : goal.returns-clause-reads
returns-clause-reads g c right = both_of _ _ (c.run_paged.ensures.reads right)
