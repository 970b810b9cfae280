use Rattle.std.proofs.Common.{rules, ◌≡◌, ◌∙◌, List, map, ap, sym, subst}
use Rattle.std.specs.Ordering.{is_lt}
use Rattle.std.specs.List.Sorted.{IsSortedBy}
use Rattle.std.proofs.lemmas.Fn.{always_returns_same}
use Rattle.back_model.specs.Shown.{Shard, shown}
use Rattle.back_model.specs.Settled.{snapshotters_of, AreOnce, PutsInOrder}
use Rattle.back_model.proofs.SortedShards.{is_less, weak_less, sorted_in_order, of_lent, shown_lent}
use Rattle.back_model.proofs.shards.sorting.in_order.Goals as goal

-- sorted, the lent shards stand in their places
pub returns-clause-ok : goal.returns-clause-ok
returns-clause-ok g c =
    let f = shown g.S.SnapBackend.contents g.S.SnapBackend.fails in
    let lent : map (of_lent f) c.in_ok-list.list.items ≡ map f c.args.shards.now =
    sym (shown_lent f c.in_ok-list.list.items) ∙ ap (map f) c.in_ok-list.ensures.ok in
    let by : IsSortedBy (is_less (of_lent f)) c.sort_unstable_by.new.self.items =
    c.sort_unstable_by.ensures.sorted (is_less (of_lent f)) (weak_less (of_lent f))
    (always_returns_same _ (λ a r. is_lt r ≡ is_less (of_lent f) a.0.now a.1.0.now) _
    (λ a r q k. search rules)) in
    let once : AreOnce (snapshotters_of (map (of_lent f) c.in_ok-list.list.items)) =
    subst (λ (l : List Shard). AreOnce (snapshotters_of l)) (sym lent) c.requires in
    subst (λ (l : List Shard). PutsInOrder l
    (map (of_lent f) c.sort_unstable_by.new.self.items)) lent
    (sorted_in_order (of_lent f) c.in_ok-list.list.items c.sort_unstable_by.new.self.items once
    c.sort_unstable_by.ensures.permutation by)
