use Rattle.std.proofs.Common.{rules, of_calls, ◌≡◌}
use Rattle.std.proofs.lemmas.Fn.{always_returns_same}
use Rattle.meta_types.specs.Text.{text_cmp}
use Rattle.back_model.specs.Shown.{shown}
use Rattle.back_model.proofs.ShardSearches.{compared, searched}
use Rattle.back_model.proofs.shards.place.Goals as goal

-- halving finds the place
pub returns : goal.returns
returns g c =
    let f = shown g.S.SnapBackend.contents g.S.SnapBackend.fails in
    let name = c.args.snapshotter.now in
    searched f name c.args.shards.now c.binary_search_by.result c.requires
    c.binary_search_by.ensures.bound
    (c.binary_search_by.ensures.position (compared f name)
    (always_returns_same _ _ _ (λ a r k called.
    let compares : r ≡ text_cmp a.0.now.0 name = search (rules, of_calls) in
    (compares, search (rules, of_calls)))))
