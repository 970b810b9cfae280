use Rattle.journal.proofs.Growing.{on_both}
use Rattle.journal.proofs.Writing.{put_done, same_size}
use Rattle.journal.proofs.journal_file.steps.put.Goals as goal

pub returns-clause-ok : goal.returns-clause-ok
returns-clause-ok g c =
    on_both c.write_through.result (λ torn holds within. put_done _ _ _ _ torn holds within)
    c.write_through.ensures.torn c.write_through.ensures.holds

pub returns-clause-same : goal.returns-clause-same
returns-clause-same g c =
    on_both c.write_through.result (λ torn holds within. same_size _ _ _ _ torn within)
    c.write_through.ensures.torn c.write_through.ensures.holds
