use Rattle.std.proofs.Common.{◌∷◌, []}
use Rattle.std.proofs.lemmas.List.Elements.{All-cons, All-nil}
use Rattle.crossbeam_deque.specs.Handles.{worker_view}
use Rattle.steal_mark.specs.Dealing.{ReachedIn}
use Rattle.steal_mark.proofs.Dealt.{pushes}
use Rattle.steal_mark.proofs.shared.claim_table.put.Goals as goal

-- the node is reached, so it may be pushed
pub push_as-requires-clause-pushes : goal.push_as-requires-clause-pushes
push_as-requires-clause-pushes c =
    let P = ReachedIn (worker_view c.args.deque.now).graph in
    pushes _ (worker_view c.args.deque.now) (c.args.node ∷ []) c.requires.part (All-cons P c.args.node [] c.requires.reached (All-nil P))
