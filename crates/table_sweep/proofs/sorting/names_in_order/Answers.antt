use Rattle.std.proofs.Common.{◌≡◌, rules}
use Rattle.std.specs.Ordering.{is_lt}
use Rattle.std.specs.List.Sorted.{IsSorted}
use Rattle.std.proofs.lemmas.Fn.{always_returns_same}
use Rattle.meta_types.specs.Text.{Text}
use Rattle.table_sweep.specs.InKeyOrder.{name_key, name_cmp}
use Rattle.table_sweep.proofs.NamesOrder.{names_weak, names_sorted, name_same, one_name}
use Rattle.table_sweep.proofs.sorting.names_in_order.Goals as goal

-- what the sort leaves is the list in the order of keys
pub returns-clause-ok : goal.returns-clause-ok
returns-clause-ok c =
    let by : IsSorted name_cmp c.sort_unstable_by.new.self.items =
    c.sort_unstable_by.ensures.sorted (λ (x y : Text × Text). is_lt (name_cmp x y)) (names_weak name_key name_cmp name_same one_name)
    (always_returns_same _ (λ a r. is_lt r ≡ is_lt (name_cmp a.0.now a.1.0.now)) _ (λ a r q k. search rules)) in
    names_sorted name_key name_cmp name_same one_name c.args.names.items c.sort_unstable_by.new.self.items c.sort_unstable_by.ensures.permutation by
