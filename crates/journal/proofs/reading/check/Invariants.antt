use Rattle.std.proofs.Common.{◌≡◌, ◌≤◌, ◌-◌, List, ℕ, take, length}
use Rattle.std.specs.Prelude.{IsTrue}
use Rattle.journal.specs.Reads.{HasRead, ZerosFrom}
use Rattle.journal.proofs.reading.check.Given as goal

abbrev pub invariant-reading : goal.invariant-reading
invariant-reading g l = record {
  within : l.at ≤ l.size;
  sized : IsTrue (g.D.Log.is_clean l.log) → l.size ≡ length (g.D.Log.text l.fn.log);
  reads : IsTrue (g.D.Log.is_clean l.log)
      → HasRead l.first (take l.at (g.D.Log.text l.fn.log)) l.reader;
  zeros : IsTrue (g.D.Log.is_clean l.log) → ZerosFrom l.till (take l.at (g.D.Log.text l.fn.log));
  clean : IsTrue (g.D.Log.is_clean l.log) → IsTrue (g.D.Log.is_clean l.fn.log);
  rests : g.D.Log.rests l.fn.log → g.D.Log.rests l.log;
  same : g.D.Log.text l.log ≡ g.D.Log.text l.fn.log;
  crash : (c : List ℕ) → g.D.Log.may_leave l.log c → g.D.Log.may_leave l.fn.log c;
}

abbrev pub decreases-reading : goal.decreases-reading
decreases-reading g l = l.size - l.at
