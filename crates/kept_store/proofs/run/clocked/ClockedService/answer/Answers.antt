use Rattle.std.proofs.Common.{refl, inr}
use Rattle.kept_store.proofs.run.clocked.ClockedService.answer.Goals as goal

-- the clock keeps the line out
pub returns-in-Some-clause-ok : goal.returns-in-Some-clause-ok
returns-in-Some-clause-ok g c = (
  c.refuses.ensures.most,
  inr (
    c.in-Some.fault,
    c.in-Some.ensures.some,
    (c.refuse_with.ensures g.S.Service.bytes, refl, refl),
  ),
)
