use Rattle.std.proofs.Common.{rules}
use Rattle.meta_types.specs.Requests.{outcome}
use Rattle.meta_types.specs.declared.request.Request.TheVariants as R
use Rattle.request_core.specs.Follows.{AnswersExactly}
use Rattle.request_core.proofs.Refusals.{refused_as}
use Rattle.request_core.proofs.state.State.lease_hold.Goals as goal

-- the lease, or what it is to hold, isn't there
pub returns-in_err-add_resource : goal.returns-in_err-add_resource
unfolding AnswersExactly
returns-in_err-add_resource g c =
    refused_as c.args.self.now (outcome c.args.self.now.state (R.LeaseHold c.args.asked.now)) _ _ c.in_err-add_resource.field-0.0 (search rules) (search rules) (search rules)
