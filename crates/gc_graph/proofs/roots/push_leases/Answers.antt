use Rattle.std.proofs.Common.{[], Bor, subst, ◌++◌, sym, append-nil, List, ℕ}
use Rattle.std.specs.List.{flat_map}
use Rattle.std.specs.List.Sorted.{IsPermutation}
use Rattle.std.proofs.lemmas.List.{take_all}
use Rattle.meta_types.specs.Rows.{LeaseRow}
use Rattle.meta_types.specs.Paths.{lease}
use Rattle.gc_graph.specs.Built.{root_targets}
use Rattle.gc_graph.proofs.AnyOrder.{row_in_any_order, unmoved}
use Rattle.gc_graph.proofs.roots.push_leases.Goals as goal

-- no row gives nothing
pub loop-row-init : goal.loop-row-init
loop-row-init c =
    let start = c.args.roots.now.items in unmoved start start [] (sym (append-nil start))

pub loop-row-preserved : goal.loop-row-preserved
loop-row-preserved c =
    let targets : Bor LeaseRow → List ℕ =
    λ row. root_targets c.args.profile c.args.at.0 c.args.book.now (lease row.now) in
    let loop = c.loop-row in
    row_in_any_order targets c.args.roots.now.items loop.roots.items
    c.push_lease_root.new.roots.items c.args.rows.now loop.row-index c.row-item.result
    c.loop-row-test.true c.row-item.is loop.invariant c.in_ok-push_lease_root.ensures.ok

pub returns-clause-ok : goal.returns-clause-ok
returns-clause-ok c =
    let targets : Bor LeaseRow → List ℕ =
    λ row. root_targets c.args.profile c.args.at.0 c.args.book.now (lease row.now) in
    let start = c.args.roots.now.items in
    subst (λ (rows : List (Bor LeaseRow)).
    IsPermutation (start ++ flat_map targets rows) c.loop-row.roots.items)
    (take_all c.loop-row.row-index c.args.rows.now c.loop-row-test.false) c.loop-row.invariant
