use Rattle.std.proofs.Common.{◌∷◌, []}
use Rattle.meta_types.specs.Text.{is_name}
use Rattle.meta_types.specs.Changes.{is_allowed_if}
use Rattle.request_core.proofs.Refusals.{first_unread}
use Rattle.request_core.proofs.read.names.read_content_to_remove.Goals as goal

-- the texts of the name are the first that are read
pub returns-in_err-ns : goal.returns-in_err-ns
returns-in_err-ns c =
    let content = c.args.content.now in
    first_unread c.from_residual.result c.in_err-ns.field-0.0 _ _
    (is_allowed_if is_name c.args.dropped_by.now ∷ []) _
    (content.ns, content.digest, c.args.dropped_by.now) c.from_residual.ensures.1
    c.in_err-ns.ensures
