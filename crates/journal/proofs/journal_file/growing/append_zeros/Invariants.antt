use Rattle.std.proofs.Common.{◌≡◌, ◌≤◌, ◌<◌, ◌-◌, replicate}
use Rattle.std.specs.Prelude.{IsTrue}
use Rattle.sqlite_disk.specs.Disk.{Holds, Torn, Follows}
use Rattle.journal.proofs.journal_file.growing.append_zeros.Given as goal

abbrev pub invariant-appending : goal.invariant-appending
invariant-appending g l = record {
  begins : l.from ≤ l.at;
  within : l.at - l.from ≤ l.till - l.from;
  calm : g.D.Disk.is_clean l.disk ≡ g.D.Disk.is_clean l.fn.disk;
  usable : IsTrue (g.D.Disk.is_usable l.disk);
  torn : Torn l.from (l.at - l.from) (g.D.Disk.seen l.fn.disk) (g.D.Disk.seen l.disk);
  holds : l.from < l.at
      → Holds (g.D.Disk.seen l.disk) l.from (replicate (l.at - l.from) 0);
  crash : Follows (Torn l.from (l.at - l.from)) (g.D.Disk.may_leave l.fn.disk)
      (g.D.Disk.may_leave l.disk);
}

abbrev pub decreases-appending : goal.decreases-appending
decreases-appending g l = l.till - l.at
