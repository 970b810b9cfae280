use Rattle.std.proofs.Common.{◌≡◌, length, take}
use Rattle.backend_sweep.specs.Shards.{is_number}
use Rattle.backend_sweep.specs.Singles.{SweepsEach}
use Rattle.backend_sweep.specs.ObjectOutcomes.{names_with, was_removed, has_failed}
use Rattle.backend_sweep.proofs.ingests.sweep_ingests.Given as goal

-- the names so far are swept, as the outcomes so far say
abbrev pub invariant-loop-i : goal.invariant-loop-i
invariant-loop-i g l = record {
  swept : SweepsEach is_number (take l.i l.fn.names) (g.I.IngestBackend.contents l.initial.backend)
      (g.I.IngestBackend.contents l.backend) (names_with was_removed (take l.i l.fn.names)
      (take l.i l.outcomes)) (names_with has_failed (take l.i l.fn.names) (take l.i l.outcomes))
      (g.I.IngestBackend.fails l.initial.backend) (g.I.IngestBackend.fails l.backend);
  same : length l.outcomes ≡ length l.fn.names;
}
