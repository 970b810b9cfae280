use Rattle.std.proofs.Common.{rules, of_calls, not, arith}
use Rattle.std.specs.Ordering.{is_gt}
use Rattle.std.proofs.lemmas.Fn.{always_returns_same}
use Rattle.meta_types.specs.Text.{text_cmp}
use Rattle.table_sweep.specs.Depths.{Listed}
use Rattle.table_sweep.proofs.Runs.{ends}
use Rattle.table_sweep.proofs.places.run_end.Goals as goal

-- and the first that stands behind them
pub returns-clause-before : goal.returns-clause-before
returns-clause-before c =
    let snapshotter = c.args.snapshotter.now in
    let point = c.partition_point.ensures.partitioned (λ (s : Listed). not (is_gt (text_cmp s.0
    snapshotter)))
    (always_returns_same _ _ _ (λ a r f k. search (rules, of_calls)))
    (ends c.args.snapshots.now c.requires snapshotter) in
    λ k d lt. point.0 k d (omega arith) lt
