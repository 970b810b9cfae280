use Rattle.store_folder.proofs.OpeningTells.{finds_second, second_finds}
use Rattle.store_folder.proofs.opening.open_second.Goals as goal

pub returns-clause-found : goal.returns-clause-found
returns-clause-found g c one two whole =
    let ok = c.in-Ok.ensures.ok one two in
    let is = c.requires.chosen ok.0.1 ok.0.0 in
    let so = ok.1.0 whole in
    (so.0, finds_second (g.D.Disk.seen c.args.first) (g.D.Disk.seen c.args.second) so.0 is so.1)

-- a start finds the same in both files, whichever counts
pub returns-clause-holds : goal.returns-clause-holds
returns-clause-holds g c one two lines finds =
    let ok = c.in-Ok.ensures.ok one two in
    let is = c.requires.chosen ok.0.1 ok.0.0 in
    ok.1.1 lines
    (second_finds (g.D.Disk.seen c.args.first)
    (g.D.Disk.seen c.args.second) lines is finds)

pub returns-in-Err-clause-refuses : goal.returns-in-Err-clause-refuses
returns-in-Err-clause-refuses g c one two heads lines finds =
    let clean = c.in-Err.ensures.clean two one in
    let is = c.requires.chosen clean.1 clean.0 in
    c.in-Err.ensures.refuses two one (rw is at heads.1) lines
    (second_finds (g.D.Disk.seen c.args.first)
    (g.D.Disk.seen c.args.second) lines is finds)

pub returns-in-Err-clause-crash : goal.returns-in-Err-clause-crash
returns-in-Err-clause-crash g c one two lines finds =
    let clean = c.in-Err.ensures.clean two one in
    let is = c.requires.chosen clean.1 clean.0 in
    c.in-Err.ensures.crash two one lines
    (second_finds (g.D.Disk.seen c.args.first)
    (g.D.Disk.seen c.args.second) lines is finds)

pub returns-clause-rests : goal.returns-clause-rests
returns-clause-rests g c = c.in-Ok.ensures.rests
