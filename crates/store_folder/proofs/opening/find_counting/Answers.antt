use Rattle.store_folder.proofs.OpeningBlanks.{missing_none, nothing_none}
use Rattle.store_folder.proofs.opening.find_counting.Goals as goal

-- a head that can be read isn't refused
pub returns-in-Err-clause-refuses : goal.returns-in-Err-clause-refuses
returns-in-Err-clause-refuses g c one two heads lines finds =
    let calm = c.in-Err.ensures.failed one heads.0 in c.head_error.ensures.passing calm.0 calm.1

-- where a file is missing no lines are found
pub returns-in-Missing-clause-refuses : goal.returns-in-Missing-clause-refuses
returns-in-Missing-clause-refuses g c one two heads lines finds =
    absurd (missing_none (g.D.Disk.seen c.args.first.now) (g.D.Disk.seen c.args.second.now) lines
    c.in-Ok.selection c.in-Missing.is_second c.in-Missing.is (c.in-Ok.ensures.choice one two) finds)

pub returns-in-Nothing-clause-refuses : goal.returns-in-Nothing-clause-refuses
returns-in-Nothing-clause-refuses g c one two heads lines finds =
    absurd (nothing_none (g.D.Disk.seen c.args.first.now) (g.D.Disk.seen c.args.second.now) lines
    c.in-Ok.selection c.in-Nothing.is (c.in-Ok.ensures.choice one two) finds)

pub returns-in-Store-clause-counts : goal.returns-in-Store-clause-counts
returns-in-Store-clause-counts g c one two = rw c.in-Store.is at (c.in-Ok.ensures.choice one two)
