use Rattle.std.proofs.Common.{◌≡◌, ◌≤◌, ◌-◌, replicate, length}
use Rattle.std.specs.Prelude.{IsTrue}
use Rattle.journal.specs.Crashes.{Only, written}
use Rattle.journal.proofs.recovery.blank.Given as goal

abbrev pub invariant-blanking : goal.invariant-blanking
invariant-blanking g l = record {
  begins : l.from ≤ l.at;
  within : l.at - l.from ≤ l.till - l.from;
  calm : g.D.Log.is_clean l.log ≡ g.D.Log.is_clean l.fn.log;
  puts : IsTrue (g.D.Log.is_clean l.fn.log) → l.from ≤ length (g.D.Log.text l.fn.log)
      → Only (g.D.Log.text l.fn.log) (g.D.Log.may_leave l.fn.log)
      → (l.at ≤ length (g.D.Log.text l.fn.log))
      × (g.D.Log.text l.log ≡ written l.from (replicate (l.at - l.from) 0) (g.D.Log.text l.fn.log))
      × Only (g.D.Log.text l.log) (g.D.Log.may_leave l.log);
}

abbrev pub decreases-blanking : goal.decreases-blanking
decreases-blanking g l = l.till - l.at
