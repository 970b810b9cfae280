use Rattle.std.proofs.Common.{◌≡◌, ◌≤◌, ◌*◌, take}
use Rattle.std.specs.Prelude.{sum_by}
use Rattle.meta_types.specs.Data.{written_bytes}
use Rattle.meta_types.proofs.data.written_length.Given as goal

-- what the bytes so far are written in
abbrev pub invariant-loop-byte : goal.invariant-loop-byte
invariant-loop-byte l = record {
  sum : l.written ≡ sum_by written_bytes (take l.byte-index l.text);
  few : l.written ≤ 6 * l.byte-index;
}
