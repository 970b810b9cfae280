use Rattle.std.proofs.Common.{◌≡◌, ◌+◌, ◌-◌, ℕ, List, length, take, drop}
use Rattle.std.specs.Prelude.{IsTrue}
use Rattle.kept_store.specs.Replays.{store_after, requests_in}
use Rattle.kept_store.proofs.replaying.replay.Given as goal

abbrev pub invariant-replaying : goal.invariant-replaying
invariant-replaying g l = record {
  done : IsTrue (g.D.Log.is_clean l.log)
      → store_after l.store
      (requests_in (take (l.end - l.at) (drop l.at (g.D.Log.text l.fn.log))))
      ≡ store_after l.fn.store (requests_in (take l.end (g.D.Log.text l.fn.log)));
  counted : IsTrue (g.D.Log.is_clean l.log)
      → l.blocks.lines + length
      (requests_in (take (l.end - l.at) (drop l.at (g.D.Log.text l.fn.log))))
      ≡ length (requests_in (take l.end (g.D.Log.text l.fn.log)));
  clean : IsTrue (g.D.Log.is_clean l.log) → IsTrue (g.D.Log.is_clean l.fn.log);
  rests : g.D.Log.rests l.fn.log → g.D.Log.rests l.log;
  same : g.D.Log.text l.log ≡ g.D.Log.text l.fn.log;
  crash : (c : List ℕ) → g.D.Log.may_leave l.log c → g.D.Log.may_leave l.fn.log c;
}

abbrev pub decreases-replaying : goal.decreases-replaying
decreases-replaying g l = l.end - l.at
