use Rattle.row_tables.specs.Namespaces.{full_key, own_texts}
use Rattle.std.proofs.Common.{◌≡◌, rules}
use Rattle.std.specs.Ordering.{is_lt}
use Rattle.std.specs.List.Sorted.{IsSorted}
use Rattle.std.proofs.lemmas.Fn.{always_returns_same}
use Rattle.row_tables.proofs.Listed.{ref_cmp, weak_order, ascending, still_apart}
use Rattle.row_tables.proofs.NamespacesArrived.{key}
use Rattle.row_tables.proofs.snapshotters.list.sort_rows.Goals as goal

-- what the sort leaves stands in the order of the keys
pub returns-clause-order : goal.returns-clause-order
returns-clause-order g c =
    let key_of = key own_texts (full_key g.K.Named.texts_of g.R.NamedRow.name_of g.R.GroupedRow.group_of) g.R.SnapshotterRow.ns_of in
    let sorted : IsSorted (ref_cmp key_of) c.sort_by.new.self.items =
    c.in_ok-sort_by.ensures.sorted (λ x y. is_lt (ref_cmp key_of x y)) (weak_order key_of)
    (always_returns_same _ (λ a r. is_lt r ≡ is_lt (ref_cmp key_of a.0.now a.1.0.now)) _ (λ a r q k. search rules)) in
    ascending key_of c.sort_by.new.self.items sorted
    (still_apart key_of c.args.list.now.items c.sort_by.new.self.items c.sort_by.ensures.permutation c.requires)
