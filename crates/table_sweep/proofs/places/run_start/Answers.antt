use Rattle.std.proofs.Common.{rules, of_calls}
use Rattle.std.specs.Ordering.{is_lt}
use Rattle.std.proofs.lemmas.Fn.{always_returns_same}
use Rattle.meta_types.specs.Text.{text_cmp}
use Rattle.table_sweep.specs.Depths.{Listed}
use Rattle.table_sweep.proofs.Runs.{starts}
use Rattle.table_sweep.proofs.places.run_start.Goals as goal

-- halving finds the first that doesn't stand before the snapshotter's
pub returns : goal.returns
returns c =
    let snapshotter = c.args.snapshotter.now in
    (c.partition_point.ensures.partitioned (λ (s : Listed). is_lt (text_cmp s.0 snapshotter))
    (always_returns_same _ _ _ (λ a r f k. search (rules, of_calls)))
    (starts c.args.snapshots.now c.requires snapshotter)).1
