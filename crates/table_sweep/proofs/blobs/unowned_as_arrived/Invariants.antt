use Rattle.std.proofs.Common.{◌≡◌, take}
use Rattle.table_sweep.specs.Masks.{gone}
use Rattle.table_sweep.proofs.blobs.unowned_as_arrived.Given as goal

-- those so far that go are there
abbrev pub invariant-loop-i : goal.invariant-loop-i
invariant-loop-i l = l.gone.items ≡ gone (take l.i l.owned) (take l.i l.blobs)
