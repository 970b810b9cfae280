use Rattle.std.proofs.Common.{take}
use Rattle.gc_report.specs.Writing.{Adds}
use Rattle.gc_report.proofs.Adding.{each}
use Rattle.reply_line.specs.Explained.{step_data}
use Rattle.reply_line.proofs.explanation.write_path.Given as goal

-- the things so far were written
abbrev pub invariant-loop-step : goal.invariant-loop-step
invariant-loop-step l = Adds l.initial.out l.out (each step_data (take l.step-index l.path))
