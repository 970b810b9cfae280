use Rattle.std.proofs.Common.{◌≡◌, ◌≤◌}
use Rattle.std.specs.Prelude.{count_by}
use Rattle.table_sweep.specs.Masks.{mask_of_one}
use Rattle.table_sweep.proofs.counts.count_marked.Given as goal

-- those so far are counted
abbrev pub invariant-loop-i : goal.invariant-loop-i
invariant-loop-i l = record {
  below : l.scanned ≤ l.i;
  counted : l.scanned ≡ count_by (λ marked. marked) (mask_of_one l.marks 0 l.i);
}
