use Rattle.std.proofs.Common.{◌≡◌, ℕ, List}
use Rattle.std.specs.Prelude.{IsTrue}
use Rattle.journal.specs.Groups.{HasGroups}
use Rattle.kept_store.proofs.grouping.make_room.Given as goal

abbrev pub invariant-growing : goal.invariant-growing
invariant-growing g l = record {
  keeps : (first : List ℕ) (groups : List (List (List ℕ)))
      → IsTrue (g.E.Log.is_clean l.fn.journal.log)
      → HasGroups (g.E.Log.text l.fn.journal.log)
      (g.E.Log.may_leave l.fn.journal.log) l.fn.journal.last l.fn.journal.end first groups
      → HasGroups (g.E.Log.text l.journal.log)
      (g.E.Log.may_leave l.journal.log) l.journal.last l.journal.end first groups;
  waits : l.journal.pending.items ≡ l.fn.journal.pending.items;
  calm : g.E.Log.is_clean l.journal.log ≡ g.E.Log.is_clean l.fn.journal.log;
}
