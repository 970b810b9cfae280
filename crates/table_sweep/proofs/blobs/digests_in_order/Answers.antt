use Rattle.std.proofs.Common.{◌≡◌, ◌∙◌, rules}
use Rattle.std.specs.Ordering.{is_lt}
use Rattle.std.specs.List.Sorted.{IsSorted}
use Rattle.std.specs.Cmp.Lexicographic.{nat_list_cmp_total}
use Rattle.std.proofs.lemmas.Fn.{always_returns_same}
use Rattle.std.proofs.lemmas.Map.Lookups.{exact_bytes}
use Rattle.meta_types.specs.Text.{Text, text_cmp}
use Rattle.meta_types.specs.Keys.{in_order}
use Rattle.table_sweep.proofs.SortedObjects.{weak_order, sorted_in_order}
use Rattle.table_sweep.proofs.OwnedBlobs.{before_is}
use Rattle.table_sweep.proofs.blobs.digests_in_order.Goals as goal

-- what the sort leaves is the list put in order
pub returns-clause-ok : goal.returns-clause-ok
returns-clause-ok c =
    let sorted : IsSorted text_cmp c.sort_unstable_by.new.self.items =
    c.sort_unstable_by.ensures.sorted (λ (x y : Text). is_lt (text_cmp x y)) (weak_order text_cmp nat_list_cmp_total exact_bytes)
    (always_returns_same _ (λ a r. is_lt r ≡ is_lt (text_cmp a.0.now a.1.0.now)) _ (λ a r q k. search rules)) in
    sorted_in_order text_cmp nat_list_cmp_total exact_bytes c.args.digests.items c.sort_unstable_by.new.self.items c.sort_unstable_by.ensures.permutation sorted
    ∙ (λ i. in_order (λ (a b : Text). before_is a b i) c.args.digests.items)
