use Rattle.std.proofs.Common.{take}
use Rattle.gc_report.specs.Writing.{Adds}
use Rattle.gc_report.proofs.Adding.{each}
use Rattle.gc_report.proofs.writing.write_list.Given as goal

-- the items so far were written
abbrev pub invariant-loop-item : goal.invariant-loop-item
invariant-loop-item g l = Adds l.initial.out l.out (each g.T.WriteJson.as_data (take l.item-index l.list))
