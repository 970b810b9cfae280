use Rattle.std.proofs.Common.{take}
use Rattle.meta_types.specs.Text.{texts_of}
use Rattle.gc_report.specs.Writing.{Adds}
use Rattle.reply_line.proofs.LabelsInOrder.{label_tokens}
use Rattle.reply_line.proofs.parts.write_entries.Given as goal

-- the labels so far were written
abbrev pub invariant-loop-key : goal.invariant-loop-key
invariant-loop-key l = Adds l.initial.out l.out (label_tokens (texts_of (take l.key-index l.entries)))
