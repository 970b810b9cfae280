use Rattle.std.proofs.Common.{◌≡◌, ℕ, rules, of_calls}
use Rattle.std.specs.Ordering.{is_le}
use Rattle.std.proofs.lemmas.Fn.{always_returns_same}
use Rattle.meta_types.specs.Text.{Text, text_cmp}
use Rattle.backend_sweep.proofs.OnePart.{ends}
use Rattle.backend_sweep.proofs.parts.end_of.Goals as goal

pub returns-clause-point : goal.returns-clause-point
returns-clause-point c =
    let s = c.args.snapshotter.now in
    c.partition_point.ensures.partitioned (λ (name : Text × ℕ). is_le (text_cmp name.0 s))
    (always_returns_same _ _ _ (λ a r f called.
    let tells : r ≡ is_le (text_cmp a.0.now.0 s) = search (rules, of_calls) in
    (tells, search (rules, of_calls)))) (ends s c.args.names.now c.requires)
