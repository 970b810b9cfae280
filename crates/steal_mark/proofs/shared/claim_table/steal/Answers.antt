use Rattle.std.proofs.Common.{sym, subst}
use Rattle.std.specs.Prelude.{min, ℕ}
use Rattle.crossbeam_deque.specs.Handles.{view}
use Rattle.crossbeam_deque.specs.Tasks.{FindsFew}
use Rattle.steal_mark.specs.Dealing.{IsDealt, Emptied}
use Rattle.steal_mark.proofs.Dealt.{takes, finds_few}
use Rattle.steal_mark.proofs.shared.claim_table.steal.Goals as goal

-- a pass with a part may take
pub steal_as-requires-clause-takes : goal.steal_as-requires-clause-takes
steal_as-requires-clause-takes c = takes _ (view c.args.pass.now) c.requires.part

-- a pass that finds nothing keeps its view
pub steal_as-requires-clause-empty : goal.steal_as-requires-clause-empty
steal_as-requires-clause-empty c = let P : ℕ → Type 0 = λ f. FindsFew IsDealt (min f 1) c.args.pass.now.id (view c.args.pass.now) (Emptied (view c.args.pass.now)) in
    subst P (sym c.requires.first_in_first_out) (finds_few _ (view c.args.pass.now))
