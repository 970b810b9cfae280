use Rattle.std.proofs.Common.{◌≡◌, List, Bor, map, subst, rules}
use Rattle.std.specs.Ordering.{is_lt}
use Rattle.std.specs.List.Sorted.{IsPermutation}
use Rattle.std.proofs.lemmas.Fn.{always_returns_same}
use Rattle.std.proofs.lemmas.List.MinMax.{ranks_by}
use Rattle.std.proofs.lemmas.List.Sorted.{IsPermutation-map}
use Rattle.meta_types.specs.declared.rows.SnapRow.{SnapRow}
use Rattle.table_sweep.specs.Owned.{object_of, object_cmp}
use Rattle.table_sweep.proofs.Searched.{object_total}
use Rattle.table_sweep.proofs.owners.snapshot_owners.Goals as goal

-- a sort leaves out no row
pub returns-clause-all : goal.returns-clause-all
returns-clause-all c =
    let row_of : Bor SnapRow → SnapRow = λ (row : Bor SnapRow). row.now in
    subst (λ (l : List SnapRow). IsPermutation l (map row_of c.sort_unstable_by.new.self.items)) c.in_ok-owners.ensures.ok
    (IsPermutation-map row_of c.in_ok-owners.owners.items c.sort_unstable_by.new.self.items c.sort_unstable_by.ensures.permutation)

pub returns-clause-order : goal.returns-clause-order
returns-clause-order c =
    c.sort_unstable_by.ensures.sorted (λ (x y : Bor SnapRow). is_lt (object_cmp (object_of x.now) (object_of y.now))) (ranks_by object_total (λ (x : Bor SnapRow). object_of x.now))
    (always_returns_same _ (λ a r. is_lt r ≡ is_lt (object_cmp (object_of a.0.now.now) (object_of a.1.0.now.now))) _ (λ a r q k. search rules))
