use Rattle.std.proofs.Common.{◌++◌, refl, sym, ◌∙◌}
use Rattle.std.proofs.lemmas.Result.{on_ok_weaker}
use Rattle.gc_graph.specs.Targets.{resource_targets}
use Rattle.gc_graph.specs.Built.{numbers_in}
use Rattle.gc_graph.proofs.AnyOrder.{lease_in_any_order, lease_that_ended}
use Rattle.gc_graph.proofs.roots.push_lease_root.Goals as goal

-- what the lease holds came behind the numbers before
pub returns-then-lease_stays-clause-ok : goal.returns-then-lease_stays-clause-ok
returns-then-lease_stays-clause-ok c =
    let book = c.args.book.now in
    let start = c.args.roots.now.items in
    let arrived = c.arrived_resources-held.result.now in
    let all = c.push_resources.new.roots.items in
    on_ok_weaker c.push_resources.result
    (λ is. lease_in_any_order book c.args.profile c.args.at.0 c.args.row.now start all arrived
    (sym c.lease_stays.ensures ∙ c.if-lease_stays.true) c.arrived_resources-held.ensures
    (is ∙ (λ i. start ++ numbers_in book
    (resource_targets (c.ns.ensures i) (c.lease_mode.ensures i) arrived))))
    c.push_resources.ensures.ok

pub returns-else-lease_stays-clause-ok : goal.returns-else-lease_stays-clause-ok
returns-else-lease_stays-clause-ok c =
    let start = c.args.roots.now.items in
    lease_that_ended c.args.book.now c.args.profile c.args.at.0 c.args.row.now start start
    (sym c.lease_stays.ensures ∙ c.if-lease_stays.false) refl
