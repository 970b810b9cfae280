use Rattle.std.proofs.Common.{refl}
use Rattle.store_folder.proofs.steps.lengthening.keep_length.Goals as goal

-- the file that counts is as it was
pub returns-then-not-is_shorter-clause-holds : goal.returns-then-not-is_shorter-clause-holds
returns-then-not-is_shorter-clause-holds g c rests clean = c.stretch-stretched.ensures.holds clean

pub returns-then-not-is_shorter-clause-tells : goal.returns-then-not-is_shorter-clause-tells
returns-then-not-is_shorter-clause-tells g c clean kept holds =
    (c.stretch-stretched.ensures.holds clean kept holds).log.only

pub returns-then-not-is_shorter-clause-rests : goal.returns-then-not-is_shorter-clause-rests
returns-then-not-is_shorter-clause-rests g c rests =
    rw c.stretch-stretched.ensures.file c.requires.rests

pub returns-then-not-is_shorter-clause-calm : goal.returns-then-not-is_shorter-clause-calm
returns-then-not-is_shorter-clause-calm g c = rw c.stretch-stretched.ensures.file refl

-- it was to grow
pub grow_folder-grown-requires : goal.grow_folder-grown-requires
grow_folder-grown-requires g c =
    record { rests = rw c.stretch-stretched.ensures.file c.requires.rests }

pub returns-clause-holds : goal.returns-clause-holds
returns-clause-holds g c rests clean kept holds =
    c.grow_folder-grown.ensures.holds rests kept
    (c.stretch-stretched.ensures.holds (rw c.grow_folder-grown.ensures.spare at clean) kept holds)

pub returns-clause-tells : goal.returns-clause-tells
returns-clause-tells g c clean kept holds =
    c.grow_folder-grown.ensures.tells kept
    (c.stretch-stretched.ensures.holds (rw c.grow_folder-grown.ensures.spare at clean) kept holds)

pub returns-clause-clean : goal.returns-clause-clean
returns-clause-clean g c clean =
    c.stretch-stretched.ensures.clean (rw c.grow_folder-grown.ensures.spare at clean)

pub returns-clause-calm : goal.returns-clause-calm
returns-clause-calm g c =
    rw c.stretch-stretched.ensures.file at c.grow_folder-grown.ensures.calm
