use Rattle.std.proofs.Common.{◌≡◌, ◌≤◌, ◌∷◌, [], ◌++◌, sym, ap, ◌∙◌, subst, arith}
use Rattle.crossbeam_deque.specs.Handles.{worker_view}
use Rattle.mark_core.specs.Reach.{Reached, node_count, targets}
use Rattle.steal_mark.specs.Claiming.{Knows}
use Rattle.steal_mark.specs.Growing.{MayClaim}
use Rattle.steal_mark.proofs.Stolen.{taken_reached}
use Rattle.steal_mark.proofs.Worked.{may_claim}
use Rattle.steal_mark.proofs.Drained.{same_graph, drains_dry, drains_more, ends}
use Rattle.steal_mark.proofs.finish.drain.drain.Goals as goal

-- the deque was found empty by who has every part
pub returns-in_default-clause-drains : goal.returns-in_default-clause-drains
returns-in_default-clause-drains c =
    let n = c.in_default.ensures.none in
    drains_dry _ _ _ _ _ _ _ _ c.loop-count.invariant.3 _ _ c.requires.whole.1 n.0 n.1 c.in_ok-reserve.ensures.items

-- its targets are reached
pub scan-requires-clause-targets : goal.scan-requires-clause-targets
scan-requires-clause-targets c =
    let d = c.loop-count.invariant.3 in
    let here : Reached c.args.graph.now c.in-Some.node = taken_reached c.args.graph.now c.in-Some.node (worker_view c.loop-count.deque) (worker_view c.take.new.deque) (same_graph _ _ _ _ _ _ _ _ d ∙ c.requires.named) c.in-Some.ensures.some in
    let is : c.targets-targets.result.now ≡ targets c.args.graph.now c.in-Some.node = c.targets-targets.ensures in
    subst (λ x. MayClaim x c.targets-targets.result.now) c.requires.graph (subst (MayClaim c.args.graph.now) (sym is) (may_claim c.args.graph.now c.in-Some.node c.requires.range here))

-- one node more is drained
pub loop-count-preserved : goal.loop-count-preserved
loop-count-preserved c =
    let d = c.loop-count.invariant.3 in
    let here : Reached c.args.graph.now c.in-Some.node = taken_reached c.args.graph.now c.in-Some.node (worker_view c.loop-count.deque) (worker_view c.take.new.deque) (same_graph _ _ _ _ _ _ _ _ d ∙ c.requires.named) c.in-Some.ensures.some in
    let is : c.targets-targets.result.now ≡ targets c.args.graph.now c.in-Some.node = c.targets-targets.ensures in
    let s = c.in_ok-scan.ensures.same in (
      s.0 ∙ c.loop-count.invariant.0,
      s.1 ∙ c.loop-count.invariant.1,
      s.2.1 ∙ (c.take.ensures.same.1 ∙ c.loop-count.invariant.2),
      drains_more _ _ _ _ _ _ _ _ d c.in-Some.node c.targets-targets.result.now _ _ _ _ c.in-Some.ensures.some c.in_ok-scan.ensures.grows is (c.push_reserved.ensures.items ∙ ap (λ x. x ++ c.in-Some.node ∷ []) c.in_ok-reserve.ensures.items),
    )

-- more nodes than the graph has can't have been drained
pub unreachable-requires : goal.unreachable-requires
unreachable-requires c =
    let d = c.loop-count.invariant.3 in
    let far : c.loop-count.count ≤ node_count c.args.graph.now = ends _ _ _ _ _ _ _ _ d c.requires.range (subst (λ x. Knows x c.loop-count.seat.me.0) (sym c.requires.graph) c.learn.ensures.knows) c.count.ensures.less c.requires.backed in
    omega arith
