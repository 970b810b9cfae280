use Rattle.std.proofs.Common.{◌≡◌}
use Rattle.std.specs.Prelude.{IsTrue}
use Rattle.journal.specs.Crashes.{Only}
use Rattle.journal.specs.Growth.{Longer}
use Rattle.store_folder.proofs.growing.grow_to.Given as goal

abbrev pub invariant-growing : goal.invariant-growing
invariant-growing g l = record {
  longer : IsTrue (g.L.Log.is_clean l.fn.log)
      → Only (g.L.Log.text l.fn.log) (g.L.Log.may_leave l.fn.log)
      → Longer (g.L.Log.text l.fn.log) (g.L.Log.text l.log)
      × Only (g.L.Log.text l.log) (g.L.Log.may_leave l.log);
  calm : g.L.Log.is_clean l.log ≡ g.L.Log.is_clean l.fn.log;
}
