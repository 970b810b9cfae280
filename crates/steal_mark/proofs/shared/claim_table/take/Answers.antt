use Rattle.std.specs.Prelude.{Option, Some, None, MatchOption, IfNone}
use Rattle.crossbeam_deque.specs.Handles.{worker_view}
use Rattle.steal_mark.proofs.Dealt.{takes, finds}
use Rattle.steal_mark.proofs.shared.claim_table.take.Goals as goal

-- where nothing was found
none_of : {X : Type 0} (o : Option X) (P : Type 0) (Q : X → Type 0) → MatchOption o P Q → IfNone o P
none_of None P Q h = h
none_of (Some x) P Q h = tt

-- the owner may take the front
pub pop_as-requires-clause-fifo : goal.pop_as-requires-clause-fifo
pop_as-requires-clause-fifo c = λ _. takes _ (worker_view c.args.deque.now) c.requires.part

-- the owner finds the deque empty
pub pop_as-requires-clause-empty : goal.pop_as-requires-clause-empty
pop_as-requires-clause-empty c = finds _ (worker_view c.args.deque.now)

-- nothing was found, so nothing changed
pub returns-clause-none : goal.returns-clause-none
returns-clause-none c = none_of c.pop_as.result _ _ c.pop_as.ensures.rule
