use Rattle.std.proofs.Common.{◌≡◌, ◌∙◌, rules, of_calls}
use Rattle.std.proofs.lemmas.Fn.{always_returns_same}
use Rattle.table_sweep.specs.Depths.{Listed}
use Rattle.table_sweep.specs.SnapshotPlaces.{name_of, name_cmp}
use Rattle.table_sweep.proofs.Halved.{halved}
use Rattle.table_sweep.proofs.places.halved_place.Goals as goal

-- halving finds the only one with the name
pub returns : goal.returns
returns c =
    let snapshotter = c.args.snapshotter.now in
    let number = c.args.number in
    let position = c.binary_search_by-found.ensures.position (λ (s : Listed). name_cmp (name_of s s.1) (snapshotter, number)) (always_returns_same _ _ _ (λ a r f called.
    let compares : r ≡ name_cmp (name_of a.0.now a.0.now.1) (snapshotter, number) = search (rules, of_calls) in (compares, search (rules, of_calls)))) in
    c.ok.ensures.value ∙ halved (snapshotter, number) c.args.snapshots.now c.requires c.binary_search_by-found.result c.binary_search_by-found.ensures.bound position
