use Rattle.std.proofs.Common.{◌≡◌, length, take, bytes_eq}
use Rattle.backend_sweep.specs.Singles.{SweepsEach}
use Rattle.backend_sweep.specs.ObjectOutcomes.{names_with, was_removed, has_failed}
use Rattle.backend_sweep.proofs.blobs.remove_each.Given as goal

-- the names so far are swept, as the outcomes so far say
abbrev pub invariant-loop-i : goal.invariant-loop-i
invariant-loop-i g l = record {
  swept : SweepsEach bytes_eq (take l.i l.fn.names) (g.B.BlobBackend.contents l.initial.backend)
      (g.B.BlobBackend.contents l.backend) (names_with was_removed (take l.i l.fn.names)
      (take l.i l.outcomes)) (names_with has_failed (take l.i l.fn.names) (take l.i l.outcomes))
      (g.B.BlobBackend.fails l.initial.backend) (g.B.BlobBackend.fails l.backend);
  same : length l.outcomes ≡ length l.fn.names;
}
