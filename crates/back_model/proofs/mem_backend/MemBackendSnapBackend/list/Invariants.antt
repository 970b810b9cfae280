use Rattle.std.proofs.Common.{◌≡◌, ◌++◌}
use Rattle.std.specs.FinMap as finmap
use Rattle.back_model.specs.Nodes.{parents_of}
use Rattle.back_model.proofs.mem_backend.MemBackendSnapBackend.list.Given as goal

abbrev pub invariant-loop-entry : goal.invariant-loop-entry
invariant-loop-entry l = l.list.items ++ parents_of l.entry-iterator ≡ finmap.entries l.self
