use Rattle.store_folder.proofs.opening.fitting.is_kept_if.Goals as goal

pub returns-clause-kept : goal.returns-clause-kept
returns-clause-kept g c clean is groups within text =
    rw c.in-Some.is (c.in_ok-kept.ensures.kept clean is groups within text)
