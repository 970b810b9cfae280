use Rattle.std.proofs.Common.{◌≡◌, rules, of_calls}
use Rattle.std.proofs.lemmas.Fn.{always_returns_same}
use Rattle.table_sweep.specs.SnapshotPlaces.{stands_before}
use Rattle.table_sweep.proofs.Halved.{are_listed}
use Rattle.table_sweep.proofs.places.are_listed.Goals as goal

pub returns : goal.returns
returns c = are_listed c.args.snapshots.now c.is_sorted_by.result (c.is_sorted_by.ensures.cases stands_before (always_returns_same _ _ _ (λ a r f called.
    let tells : r ≡ stands_before a.0.now a.1.0.now = search (rules, of_calls) in (tells, search (rules, of_calls)))))
