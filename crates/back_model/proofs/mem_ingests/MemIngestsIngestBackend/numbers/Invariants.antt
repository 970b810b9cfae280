use Rattle.std.proofs.Common.{◌≡◌, ◌++◌}
use Rattle.back_model.proofs.mem_ingests.MemIngestsIngestBackend.numbers.Given as goal

abbrev pub invariant-loop-number : goal.invariant-loop-number
invariant-loop-number l = l.numbers.items ++ l.number-iterator ≡ l.self
