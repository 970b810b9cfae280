use Rattle.std.proofs.Common.{◌≡◌, ◌<◌, ℕ, length, get_or, None}
use Rattle.gc_graph.specs.Stored.{records_of}
use Rattle.explaining.specs.ThingRows.{numbered}
use Rattle.explaining.specs.Firsts.{first_leading, AreWithin}
use Rattle.explaining.proofs.firsts.first_before.Given as goal

-- the numbers so far have been tried
abbrev pub invariant-loop-from : goal.invariant-loop-from
invariant-loop-from l = record {
  count : length l.before.items ≡ length l.depths;
  within : AreWithin (length (numbered (records_of l.rows))) l.before.items;
  each : (t : ℕ) → t < length l.depths → get_or l.before.items t None ≡ first_leading (records_of l.rows) l.graph l.depths t l.from;
}
