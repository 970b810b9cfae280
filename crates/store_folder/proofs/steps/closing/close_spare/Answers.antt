use Rattle.store_folder.proofs.steps.closing.close_spare.Goals as goal

pub returns-clause-holds : goal.returns-clause-holds
returns-clause-holds g c kept holds = rw c.into_disk-disk.ensures holds
