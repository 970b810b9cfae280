use Rattle.std.proofs.Common.{◌≡◌, ◌∙◌, ap, not, Bor, rules, of_calls}
use Rattle.std.proofs.lemmas.Fn.{always_returns_same}
use Rattle.std.proofs.lemmas.List.Sorted.{searchable_from_sorted}
use Rattle.meta_types.specs.declared.rows.SnapRow.{SnapRow}
use Rattle.table_sweep.specs.Owned.{object_of, object_cmp, name_of}
use Rattle.table_sweep.proofs.Searched.{object_total, searched_any, any_own, err_is}
use Rattle.table_sweep.proofs.owners.owner_place.Goals as goal

-- halving finds a row that has the name
pub returns : goal.returns
returns c =
    let owners = c.args.owners.now in
    let snap = c.args.snap.now in
    let rises = searchable_from_sorted object_total (λ (row : Bor SnapRow). object_of row.now) owners (name_of snap) c.requires in
    let position = c.binary_search_by.ensures.position (λ (row : Bor SnapRow). object_cmp (object_of row.now) (name_of snap)) (always_returns_same _ _ _ (λ a r f called.
    let compares : r ≡ object_cmp (object_of a.0.now.now) (name_of snap) = search (rules, of_calls) in (compares, search (rules, of_calls)))) in
    err_is c.binary_search_by.result
    ∙ ap not (searched_any (λ (row : Bor SnapRow). object_cmp (object_of row.now) (name_of snap)) owners c.binary_search_by.result c.binary_search_by.ensures.bound position rises ∙ any_own owners snap)
