use Rattle.std.proofs.Common.{take}
use Rattle.gc_report.specs.Writing.{Adds}
use Rattle.gc_report.proofs.Adding.{each}
use Rattle.reply_line.specs.Replies.{resource_data}
use Rattle.reply_line.proofs.parts.write_resources.Given as goal

-- the resources so far were written
abbrev pub invariant-loop-resource : goal.invariant-loop-resource
invariant-loop-resource l = Adds l.initial.out l.out (each resource_data (take l.resource-index l.resources))
