use Rattle.std.proofs.Common.{subst, ℕ, List, false}
use Rattle.scripts.specs.StoreSteps.{LineSteps}
use Rattle.scripts.proofs.Replying.{same_bytes}
use Rattle.scripts.proofs.line_store.LineStoreService.refuse.Goals as goal

pub returns : goal.returns
returns g c =
    subst (λ (t : List ℕ). LineSteps c.args.self.now c.args.line.now t false c.args.self.now)
    (same_bytes c.refuse_line.result) (c.refuse_line.ensures c.args.self.now)
