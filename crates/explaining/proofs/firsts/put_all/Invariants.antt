use Rattle.std.proofs.Common.{◌≡◌, ◌<◌, ℕ, length, get_or, take, None}
use Rattle.std.specs.Prelude.{◌&&◌, ◌==◌}
use Rattle.std.specs.List.{list_any}
use Rattle.gc_graph.specs.Stored.{records_of}
use Rattle.mark_core.specs.Firsts.{is_step}
use Rattle.explaining.specs.ThingRows.{numbered}
use Rattle.explaining.specs.Firsts.{chosen, number_before, AreWithin}
use Rattle.explaining.proofs.firsts.put_all.Given as goal

-- the targets so far have the number that stands first
abbrev pub invariant-loop-target : goal.invariant-loop-target
invariant-loop-target l = record {
  count : length l.before ≡ length l.depths;
  within : AreWithin (length (numbered (records_of l.rows))) l.before;
  each : (t : ℕ) → t < length l.depths → get_or l.before t None
      ≡ chosen (number_before (records_of l.rows)) (list_any (λ b. b == t) (take l.target-index l.targets) && is_step (get_or l.depths l.from None) (get_or l.depths t None)) l.from (get_or l.fn.before t None);
}
