-- Lists of the same items are one list when they are put in order.
use Rattle.std.proofs.Common.{◌≡◌, List, sym, ◌∙◌}
use Rattle.std.specs.Ordering.{is_lt}
use Rattle.std.specs.declared.cmp.Ordering.{Ordering}
use Rattle.std.specs.Cmp.{IsTotalOrder}
use Rattle.std.specs.Cmp.Lexicographic.{nat_list_cmp_total}
use Rattle.std.specs.List.Sorted.{IsPermutation}
use Rattle.std.proofs.lemmas.Map.Lookups.{exact_bytes}
use Rattle.meta_types.specs.Text.{Text, text_cmp}
use Rattle.meta_types.specs.Keys.{in_order}
use Rattle.row_tables.specs.Arrived.{one_text, sorted}
use Rattle.table_sweep.specs.InKeyOrder.{name_key, name_cmp, snapshot_name_key, snapshot_name_cmp}
use Rattle.table_sweep.proofs.NamesOrder.{names_alike, name_same, one_name, snapshot_name_same, one_snapshot_name}
use Rattle.table_sweep.proofs.OwnedBlobs.{before_is}
use Rattle.table_sweep.proofs.SortedObjects.{order_alike}

pub digests_alike : (xs ys : List Text) → IsPermutation xs ys → sorted one_text ys ≡ sorted one_text
    xs
digests_alike xs ys p =
    sym (λ i. in_order (λ (a b : Text). before_is a b i) ys)
    ∙ order_alike text_cmp nat_list_cmp_total exact_bytes xs ys p
    ∙ (λ i. in_order (λ (a b : Text). before_is a b i) xs)

pub content_alike : (xs ys : List (Text × Text)) → IsPermutation xs ys → sorted name_key ys ≡ sorted
    name_key xs
content_alike = names_alike name_key name_cmp name_same one_name

pub snapshots_alike : (xs ys : List (Text × Text × Text)) → IsPermutation xs ys → sorted
    snapshot_name_key ys ≡ sorted snapshot_name_key xs
snapshots_alike = names_alike snapshot_name_key snapshot_name_cmp snapshot_name_same
    one_snapshot_name
