use Rattle.std.proofs.Common.{◌≡◌, ◌++◌, List, map, length, take}
use Rattle.meta_types.specs.declared.rows.ContentRow.{ContentRow}
use Rattle.object_tables.specs.Calls.{kept}
use Rattle.table_sweep.specs.Owned.{owns_blob}
use Rattle.table_sweep.proofs.blobs.own_blobs.Given as goal

-- the blobs of the rows so far are marked beside those that were
abbrev pub invariant-loop-i : goal.invariant-loop-i
invariant-loop-i l = record {
  long : length l.owned.items ≡ length l.blobs;
  made : (before : List ContentRow) → l.fn.owned.items ≡ map (owns_blob before) l.blobs
      → l.owned.items
      ≡ map (owns_blob (before ++ kept (take l.i l.mask) (take l.i l.rows))) l.blobs;
}
