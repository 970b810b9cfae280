use Rattle.std.proofs.Common.{◌≡◌, length, take}
use Rattle.store_front.specs.Cursors.{AreUpTo}
use Rattle.store_front.proofs.check.sessions.first_mismatch.Given as goal

abbrev pub invariant-loop-entry : goal.invariant-loop-entry
invariant-loop-entry g l = record {
  long : length l.next.items ≡ length l.sessions;
  each : AreUpTo (take l.entry-index l.log) l.sessions l.next.items;
}
