use Rattle.std.proofs.Common.{add-zero}
use Rattle.request_core.proofs.add.ingest.make_ingest.Goals as goal

-- the device didn't fail
pub returns-in-Ok-clause-fault : goal.returns-in-Ok-clause-fault
returns-in-Ok-clause-fault g c = rw (add-zero, c.ingests_mut.ensures.value) at c.in-Ok.ensures.fails

-- it failed once more
pub returns-in-Err-Device-clause-fault : goal.returns-in-Err-Device-clause-fault
returns-in-Err-Device-clause-fault g c =
    rw (c.in-Err-Device.field-0-is, c.ingests_mut.ensures.value) at c.in-Err-Device.ensures.fails

-- memory ran out
pub returns-in-Err-Memory-clause-fault : goal.returns-in-Err-Memory-clause-fault
returns-in-Err-Memory-clause-fault g c =
    rw (c.in-Err-Memory.field-0-is, add-zero, c.ingests_mut.ensures.value) at c.in-Err-Memory.ensures.fails
