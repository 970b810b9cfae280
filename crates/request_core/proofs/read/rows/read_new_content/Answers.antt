use Rattle.std.proofs.Common.{◌∷◌, []}
use Rattle.meta_types.specs.Text.{is_name}
use Rattle.meta_types.specs.Data.{is_data, data_of}
use Rattle.meta_types.specs.Changes.{is_allowed_if}
use Rattle.meta_types.specs.Labels.{are_labels, labels_of}
use Rattle.request_core.proofs.Refusals.{first_unread}
use Rattle.request_core.proofs.read.rows.read_new_content.Goals as goal

-- the texts of the name are the first that are read
pub returns-in_err-ns : goal.returns-in_err-ns
returns-in_err-ns c =
    let asked = c.args.asked.now in
    first_unread c.from_residual.result c.in_err-ns.field-0.0 _ _
    (are_labels asked.labels ∷ is_allowed_if is_name asked.lease ∷ is_allowed_if is_data asked.extra
    ∷ []) _ (
      asked.content.ns,
      asked.content.digest,
      record {
        labels = labels_of asked.labels;
        extra =
            data_of asked.extra;
      },
      asked.lease,
    )
    c.from_residual.ensures.1 c.in_err-ns.ensures
