use Rattle.std.proofs.Common.{◌∙◌, ap, not}
use Rattle.std.specs.Ordering.{nat_cmp}
use Rattle.std.specs.Cmp.{nat_cmp_total}
use Rattle.std.proofs.lemmas.List.Sorted.{searchable_from_sorted}
use Rattle.table_sweep.proofs.Searched.{searched_any, any_number, err_is}
use Rattle.table_sweep.proofs.owners.is_begun_removed.Goals as goal

-- halving finds a number that is there
pub returns : goal.returns
returns c =
    let owned = c.args.owned.now in
    let rises = searchable_from_sorted nat_cmp_total (λ n. n) owned c.args.number c.requires in
    c.is_err.ensures.value ∙ err_is c.binary_search.result
    ∙ ap not (searched_any (λ n. nat_cmp n c.args.number) owned c.binary_search.result c.binary_search.ensures.bound c.binary_search.ensures.position rises ∙ any_number owned c.args.number)
