use Rattle.std.proofs.Common.{◌≡◌, []}
use Rattle.metad.proofs.running.answer_all.Given as goal

-- no line waits between two calls
abbrev pub invariant-serving : goal.invariant-serving
invariant-serving g l = record { waits : l.files.log.journal.pending.items ≡ [] }
