use Rattle.std.proofs.Common.{ap}
use Rattle.crossbeam_deque.specs.Handles.{worker_view}
use Rattle.steal_mark.specs.declared.shared.deques.PassView.{PassView}
use Rattle.steal_mark.proofs.Dealt.{names}
use Rattle.steal_mark.proofs.start.roots.new_deque.Goals as goal

-- the first pass may name the graph
pub another-requires : goal.another-requires
another-requires g c = names _ (worker_view c.in_ok-deque.deque) _ (ap (λ (h : PassView). h.parts) c.in_ok-deque.ensures.4) (ap (λ (h : PassView). h.graph) c.in_ok-deque.ensures.4)
