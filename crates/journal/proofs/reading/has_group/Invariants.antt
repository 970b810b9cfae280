use Rattle.std.proofs.Common.{◌≡◌, ◌≤◌, ◌-◌, List, ℕ, take, length}
use Rattle.std.specs.Prelude.{IsTrue}
use Rattle.journal.specs.Reads.{HasRead}
use Rattle.journal.proofs.reading.has_group.Given as goal

abbrev pub invariant-looking : goal.invariant-looking
invariant-looking g l = record {
  within : l.at ≤ l.end;
  sized : IsTrue (g.D.Log.is_clean l.log) → l.end ≡ length (g.D.Log.text l.fn.log);
  reads : IsTrue (g.D.Log.is_clean l.log)
      → HasRead l.first (take l.at (g.D.Log.text l.fn.log)) l.reader;
  clean : IsTrue (g.D.Log.is_clean l.log) → IsTrue (g.D.Log.is_clean l.fn.log);
  rests : g.D.Log.rests l.fn.log → g.D.Log.rests l.log;
  same : g.D.Log.text l.log ≡ g.D.Log.text l.fn.log;
  crash : (c : List ℕ) → g.D.Log.may_leave l.log c → g.D.Log.may_leave l.fn.log c;
}

abbrev pub decreases-looking : goal.decreases-looking
decreases-looking g l = l.end - l.at
