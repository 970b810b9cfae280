use Rattle.std.proofs.Common.{subst, ℕ, List}
use Rattle.scripts.specs.StoreSteps.{LineSteps}
use Rattle.scripts.proofs.Replying.{same_bytes}
use Rattle.scripts.proofs.line_store.LineStoreService.answer.Goals as goal

pub returns-in-Ok-clause-ok : goal.returns-in-Ok-clause-ok
returns-in-Ok-clause-ok g c =
    subst (λ (t : List ℕ). LineSteps c.args.self.now c.args.line.now t c.in-Ok.answered.changes
    c.take.new.self) (same_bytes c.in-Ok.answered.reply) c.in-Ok.ensures.ok
