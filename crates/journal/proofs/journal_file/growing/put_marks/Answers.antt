use Rattle.std.proofs.Common.{refl, subst, ℕ}
use Rattle.sqlite_disk.specs.Disk.{Torn}
use Rattle.journal.proofs.Growing.{on_both}
use Rattle.journal.proofs.Growth.{marks_put, marks_left}
use Rattle.journal.proofs.journal_file.growing.put_marks.Goals as goal

pub returns-clause-ok : goal.returns-clause-ok
returns-clause-ok g c =
    on_both c.put.result
    (λ put same. marks_put _ _ _ _ _ c.requires.bound c.mark_of.ensures refl put same)
    c.put.ensures.ok c.put.ensures.same

pub returns-clause-crash : goal.returns-clause-crash
returns-clause-crash g c head long only out left =
    let from = c.put.ensures.crash out left in
    marks_left _ from.0 out _ _ _ c.requires.bound c.mark_of.ensures refl
    (only from.0 from.1) from.2 head

pub returns-clause-torn : goal.returns-clause-torn
returns-clause-torn g c out left =
    let from = c.put.ensures.crash out left in
    (from.0, from.1, subst (λ (n : ℕ). Torn n 2 from.0 out) c.mark_of.ensures from.2)
