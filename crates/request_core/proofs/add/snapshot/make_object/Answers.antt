use Rattle.std.proofs.Common.{add-zero}
use Rattle.request_core.proofs.add.snapshot.make_object.Goals as goal

-- the object is made
pub returns-in-Ok : goal.returns-in-Ok
returns-in-Ok g c = record {
  ok = c.in-Ok.ensures.listed;
  err = tt;
  others = c.in-Ok.ensures.others;
  fault = rw add-zero at c.in-Ok.ensures.fails;
}

-- the device failed once more
pub returns-in-Err-Device : goal.returns-in-Err-Device
returns-in-Err-Device g c = record {
  ok = tt;
  err = c.in-Err-Device.ensures.err;
  others = c.in-Err-Device.ensures.others;
  fault = rw c.in-Err-Device.field-0-is at c.in-Err-Device.ensures.fails;
}

-- memory ran out
pub returns-in-Err-Memory : goal.returns-in-Err-Memory
returns-in-Err-Memory g c = record {
  ok = tt;
  err = c.in-Err-Memory.ensures.err;
  others = c.in-Err-Memory.ensures.others;
  fault = rw (c.in-Err-Memory.field-0-is, add-zero) at c.in-Err-Memory.ensures.fails;
}
