use Rattle.std.proofs.Common.{rules}
use Rattle.meta_types.specs.Requests.{outcome}
use Rattle.meta_types.specs.declared.request.Request.TheVariants as R
use Rattle.request_core.specs.Follows.{AnswersExactly}
use Rattle.request_core.proofs.Refusals.{refused_as}
use Rattle.request_core.proofs.state.State.snap_label.Goals as goal

-- the label isn't allowed, or what it is put on isn't there
pub returns-in_err-relabel_snap : goal.returns-in_err-relabel_snap
unfolding AnswersExactly
returns-in_err-relabel_snap g c =
    refused_as c.args.self.now (outcome c.args.self.now.state (R.SnapLabel c.args.snapshot.now c.args.label.now)) _ _ c.in_err-relabel_snap.field-0.0 (search rules) (search rules) (search rules)
