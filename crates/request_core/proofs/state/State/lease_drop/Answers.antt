use Rattle.std.proofs.Common.{rules}
use Rattle.meta_types.specs.Requests.{outcome}
use Rattle.meta_types.specs.declared.request.Request.TheVariants as R
use Rattle.request_core.specs.Follows.{AnswersExactly}
use Rattle.request_core.proofs.Refusals.{only_refused_as}
use Rattle.request_core.proofs.state.State.lease_drop.Goals as goal

-- the lease, or what it is to hold, isn't there
pub returns-in_err-drop_resource : goal.returns-in_err-drop_resource
unfolding AnswersExactly
returns-in_err-drop_resource g c =
    only_refused_as c.args.self.now (outcome c.args.self.now.state (R.LeaseDrop c.args.asked.now)) _ _ c.in_err-drop_resource.field-0.0 (search rules) (search rules) (search rules)
