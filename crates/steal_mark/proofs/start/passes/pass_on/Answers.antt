use Rattle.std.proofs.Common.{arith}
use Rattle.crossbeam_deque.specs.Handles.{worker_view}
use Rattle.steal_mark.proofs.Dealt.{forks, watches}
use Rattle.steal_mark.proofs.start.passes.pass_on.Goals as goal

-- a pass with no part
pub another-pass-requires : goal.another-pass-requires
another-pass-requires c = watches _ (worker_view c.args.deque.now) (let a = c.requires.parts in omega arith)

-- a pass with one part
pub another-pass-requires-else-own : goal.another-pass-requires-else-own
another-pass-requires-else-own c = forks _ (worker_view c.args.deque.now) c.requires.parts
