use Rattle.std.proofs.Common.{◌≡◌, ◌≤◌, ◌-◌, length}
use Rattle.std.specs.Prelude.{IsTrue}
use Rattle.journal.specs.Crashes.{Only}
use Rattle.journal.proofs.Zeroing.{Blanked}
use Rattle.journal.proofs.journal_file.blanking.blank_front.Given as goal

abbrev pub invariant-blanking : goal.invariant-blanking
invariant-blanking g l = record {
  within : l.at ≤ l.size;
  calm : g.L.Log.is_clean l.log ≡ g.L.Log.is_clean l.fn.log;
  puts : IsTrue (g.L.Log.is_clean l.fn.log)
      → (l.at ≤ length (g.L.Log.text l.fn.log))
      × (g.L.Log.text l.log ≡ Blanked l.at (g.L.Log.text l.fn.log));
  rests : IsTrue (g.L.Log.is_clean l.fn.log)
      → Only (g.L.Log.text l.fn.log) (g.L.Log.may_leave l.fn.log)
      → Only (g.L.Log.text l.log) (g.L.Log.may_leave l.log);
}

abbrev pub decreases-blanking : goal.decreases-blanking
decreases-blanking g l = l.size - l.at
