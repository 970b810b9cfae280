use Rattle.std.proofs.Common.{◌≡◌, ◌≤◌, ◌<◌, ◌-◌, List, ℕ}
use Rattle.std.specs.Prelude.{IsTrue}
use Rattle.journal.proofs.rereading.read_lines.Given as goal

abbrev pub invariant-trying : goal.invariant-trying
invariant-trying g l = record {
  some : 0 < l.left → 0 < l.count;
  within : l.count ≤ l.left;
  clean : IsTrue (g.D.Log.is_clean l.log) → IsTrue (g.D.Log.is_clean l.fn.log);
  rests : g.D.Log.rests l.fn.log → g.D.Log.rests l.log;
  same : g.D.Log.text l.log ≡ g.D.Log.text l.fn.log;
  crash : (c : List ℕ) → g.D.Log.may_leave l.log c → g.D.Log.may_leave l.fn.log c;
}

abbrev pub decreases-trying : goal.decreases-trying
decreases-trying g l = l.left - l.count
