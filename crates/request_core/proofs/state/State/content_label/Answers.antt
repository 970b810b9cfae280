use Rattle.std.proofs.Common.{rules}
use Rattle.meta_types.specs.Requests.{outcome}
use Rattle.meta_types.specs.declared.request.Request.TheVariants as R
use Rattle.request_core.specs.Follows.{AnswersExactly}
use Rattle.request_core.proofs.Refusals.{refused_as}
use Rattle.request_core.proofs.state.State.content_label.Goals as goal

-- the label isn't allowed, or what it is put on isn't there
pub returns-in_err-relabel_content : goal.returns-in_err-relabel_content
unfolding AnswersExactly
returns-in_err-relabel_content g c =
    refused_as c.args.self.now (outcome c.args.self.now.state (R.ContentLabel c.args.content.now c.args.label.now)) _ _ c.in_err-relabel_content.field-0.0 (search rules) (search rules) (search rules)
