use Rattle.std.proofs.Common.{◌∙◌}
use Rattle.store_folder.proofs.OpeningPages.{front_headed}
use Rattle.store_folder.proofs.opening.fronts.read_steps.Goals as goal

pub returns-clause-headed : goal.returns-clause-headed
returns-clause-headed g c clean =
    front_headed _ c.deref.result.now c.in_ok-front.front.size c.in-Some.steps
    (c.deref.ensures.value ∙ c.in_ok-front.ensures.bytes clean)
    (c.in_ok-front.ensures.size clean) (rw c.in-Some.is at c.in-Ok.ensures.some)
