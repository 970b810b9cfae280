use Rattle.std.proofs.Common.{◌∙◌, refl}
use Rattle.store_folder.proofs.Puts.{as_it_was}
use Rattle.store_folder.proofs.Lengthening.{longer_still}
use Rattle.store_folder.proofs.growing.grow_to.Goals as goal

pub growing-init : goal.growing-init
growing-init g c = record {
  longer = λ clean only. (as_it_was _ _ refl, only);
  calm = refl;
}

-- a step more
pub growing-preserved : goal.growing-preserved
growing-preserved g c =
    let i = c.growing.invariant in
    record {
      longer = λ clean only.
          let was = i.longer clean only in
          let now = c.in_ok-grown.ensures.longer (i.calm ∙ clean) was.1 in
          (longer_still _ _ _ was.0 now.0, now.1);
      calm = c.grow_once.ensures.calm ∙ i.calm;
    }

-- it can't grow
pub returns-in_err-grown-clause-crash : goal.returns-in_err-grown-clause-crash
returns-in_err-grown-clause-crash g c clean only out left =
    let i = c.growing.invariant in
    let was = i.longer clean only in
    longer_still _ _ _ was.0 (c.grow_once.ensures.crash (i.calm ∙ clean) was.1 out left)

pub returns-in_err-grown-clause-calm : goal.returns-in_err-grown-clause-calm
returns-in_err-grown-clause-calm g c = c.grow_once.ensures.calm ∙ c.growing.invariant.calm

-- it is long enough
pub returns-in-Some-clause-durable : goal.returns-in-Some-clause-durable
returns-in-Some-clause-durable g c clean only =
    let i = c.growing.invariant in
    (c.in_ok-grown.ensures.longer (i.calm ∙ clean) (i.longer clean only).1).1

pub returns-in-Some-clause-calm : goal.returns-in-Some-clause-calm
returns-in-Some-clause-calm g c = c.grow_once.ensures.calm ∙ c.growing.invariant.calm

pub returns-in-Some-clause-crash : goal.returns-in-Some-clause-crash
returns-in-Some-clause-crash g c clean only out left =
    let i = c.growing.invariant in
    let was = i.longer clean only in
    longer_still _ _ _ was.0 (c.grow_once.ensures.crash (i.calm ∙ clean) was.1 out left)

-- it grew as often as it may
pub returns-clause-crash : goal.returns-clause-crash
returns-clause-crash g c clean only out left =
    let was = c.growing.invariant.longer clean only in
    longer_still _ _ _ was.0 (as_it_was _ out (was.1 out left))
