use Rattle.std.proofs.Common.{◌∙◌, ap}
use Rattle.back_model.specs.Objects.{has_number}
use Rattle.request_core.specs.Follows.{Store}
use Rattle.request_core.proofs.FreeNumbers.{number_free}
use Rattle.request_core.proofs.state.State.free_number.Goals as goal

-- each number of the backend is below the next
pub returns-clause-free : goal.returns-clause-free
returns-clause-free g c =
    ap (λ (store : Store). has_number store.state.records.next c.args.self.now.state.backends.ingests) c.self.view_is ∙ number_free c.args.self.now.state.records.next c.args.self.now.state.backends.ingests c.requires.backed.begun_below
