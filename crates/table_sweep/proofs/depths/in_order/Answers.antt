use Rattle.std.proofs.Common.{◌≡◌, ◌∙◌, sym, rules}
use Rattle.std.specs.Ordering.{is_lt}
use Rattle.std.specs.List.Sorted.{IsSorted}
use Rattle.std.proofs.lemmas.List.Sorted.{IsPermutation-trans}
use Rattle.std.proofs.lemmas.Fn.{always_returns_same}
use Rattle.meta_types.specs.Keys.{in_order}
use Rattle.table_sweep.specs.declared.depths.Key.{Key}
use Rattle.table_sweep.specs.Depths.{key_cmp}
use Rattle.table_sweep.proofs.SortedObjects.{weak_order, sorted_in_order}
use Rattle.table_sweep.proofs.KeyOrder.{key_total, key_exact, first_is}
use Rattle.table_sweep.proofs.depths.in_order.Goals as goal

-- what the sort leaves is the list put in order
pub returns-clause-ok : goal.returns-clause-ok
returns-clause-ok c =
    let sorted : IsSorted key_cmp c.sort_unstable_by.new.self.items =
    c.sort_unstable_by.ensures.sorted (λ (x y : Key). is_lt (key_cmp x y))
    (weak_order key_cmp key_total key_exact)
    (always_returns_same _ (λ a r. is_lt r ≡ is_lt (key_cmp a.0.now a.1.0.now)) _
    (λ a r q k. search rules)) in
    sorted_in_order key_cmp key_total key_exact c.args.keys.items c.sort_unstable_by.new.self.items
    (IsPermutation-trans c.args.keys.items c.in_runs-keys.result.items
    c.sort_unstable_by.new.self.items c.in_runs-keys.ensures c.sort_unstable_by.ensures.permutation)
    sorted
    ∙ (λ i. in_order (λ (a b : Key). sym (first_is a b) i) c.args.keys.items)
