use Rattle.std.proofs.Common.{refl, inr}
use Rattle.meta_types.specs.declared.fault.Fault.TheVariants.{OutOfMemory}
use Rattle.kept_store.proofs.run.clocked.ClockedService.refuse.Goals as goal

-- memory or room is missing
pub returns : goal.returns
returns g c =
    (refl, inr (OutOfMemory, inr refl, (c.refuse_with.ensures g.S.Service.bytes, refl, refl)))
