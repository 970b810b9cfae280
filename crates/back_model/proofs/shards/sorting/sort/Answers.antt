use Rattle.std.proofs.Common.{◌≡◌, rules}
use Rattle.std.specs.Ordering.{is_lt}
use Rattle.std.specs.List.Sorted.{IsSortedBy}
use Rattle.std.proofs.lemmas.Fn.{always_returns_same}
use Rattle.back_model.specs.Shown.{shown}
use Rattle.back_model.proofs.SortedShards.{is_less, weak_less, sorted_in_order}
use Rattle.back_model.proofs.shards.sorting.sort.Goals as goal

-- sorted, the shards stand in their places
pub returns : goal.returns
returns g c =
    let f = shown g.S.SnapBackend.contents g.S.SnapBackend.fails in
    let by : IsSortedBy (is_less f) c.sort_unstable_by.new.self.items =
    c.sort_unstable_by.ensures.sorted (is_less f)
    (weak_less f)
    (always_returns_same _ (λ a r. is_lt r ≡ is_less f a.0.now a.1.0.now) _
    (λ a r q k. search rules)) in
    sorted_in_order f c.args.shards.now.items c.sort_unstable_by.new.self.items c.requires
    c.sort_unstable_by.ensures.permutation by
